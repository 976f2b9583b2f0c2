-- A position that falls in round n + 1 shows n + 1 open positions, no two the same.
use Rattle.std.proofs.Common.{◌≡◌, ℕ, zero, suc, ◌<◌, ◌≤◌, true, false, not, List, [], ◌∷◌, length, Some, None, sym, refl, subst, ⊎_elim}
use Rattle.std.proofs.ByRecursion.{All-weaker}
use Rattle.std.proofs.lemmas.Bool.{both_ways, cases_lt, and_from, and_parts, not_from_false}
use Rattle.std.specs.List.{AllByRecursion}
use Rattle.board.specs.Table.{Table, row_at}
use Rattle.cost.specs.Kind.{Kind}
use Rattle.cost.specs.Laws.{CostLaws}
use Rattle.orders.specs.Counting.{Distinct}
use Rattle.orders.proofs.Extremes.{Fallen, refuted}
use Rattle.orders.proofs.Pigeons.{pigeons}
use Rattle.game.specs.Open.{is_open, open_positions}
use Rattle.game.specs.Values.{value_leq, is_cost}
use Rattle.game.specs.Rounds.{charge_of, value_through, row_value, round}
use Rattle.game.proofs.Values.{values, add_keeps, add_grows, cost_strict, cost_lower}
use Rattle.game.proofs.Rounds.{row_fell, never_rises, resting, outside}

-- p falls in round n + 1
abbrev pub Falls : {C : Type 0} → Kind C → Table → ℕ → ℕ → Type 0
Falls k t n p = value_leq k (round k t n p) (round k t (suc n) p) ≡ false

pub record Chain {C : Type 0} (k : Kind C) (t : Table) (n p : ℕ) : Type 0 where
  pub those : List ℕ
  pub many : length those ≡ suc n
  pub distinct : Distinct those
  pub low : AllByRecursion (λ q. value_leq k (round k t (suc n) q) (round k t (suc n) p) ≡ true) those
  pub all_open : AllByRecursion (λ q. (q < length t.rows) × (is_open t (round k t (suc n)) q ≡ true)) those

module _ {C : Type 0} (k : Kind C) (laws : CostLaws k) (t : Table) where
  falls_awake : (n p : ℕ) → Falls k t n p → (row_at t p).rests ≡ false
  falls_awake n p h = refuted (row_at t p).rests (λ e. both_ways _ (rw (resting k laws t n p e, resting k laws t (suc n) p e) at h) ((values k laws).reflexive (Some k.zero)))

  falls_inside : (n p : ℕ) → Falls k t n p → p < length t.rows
  falls_inside n p h =
      ⊎_elim (λ e. e) (λ e. absurd (both_ways _ (rw (outside k laws t n p e, outside k laws t (suc n) p e) at h) ((values k laws).reflexive None))) (cases_lt p (length t.rows))

  falls_open : (n p : ℕ) → Falls k t n p → (p < length t.rows) × (is_open t (round k t (suc n)) p ≡ true)
  falls_open n p h = (falls_inside n p h, and_from _ _ (cost_strict k laws _ _ h) (not_from_false _ (falls_awake n p h)))

  open_later : (n q : ℕ) → is_open t (round k t n) q ≡ true → is_open t (round k t (suc n)) q ≡ true
  open_later n q h =
      let parts = and_parts (is_cost (round k t n q)) (not (row_at t q).rests) h in
      and_from _ _ (cost_lower k laws _ _ (never_rises k laws t n q) parts.0) parts.1

  -- some target fell one round before, to no more
  target_falls : (n p : ℕ) → Falls k t (suc n) p → (q : ℕ) × Falls k t n q × (value_leq k (round k t (suc n) q) (round k t (suc (suc n)) p) ≡ true)
  unfolding round
  target_falls n p h = go (row_fell k laws (round k t (suc n)) (round k t n) (row_at t p) h).1
    where
      go : Fallen (value_leq k) (value_through k (round k t (suc n))) (value_through k (round k t n)) (row_value k (round k t (suc n)) (row_at t p))
          → (q : ℕ) × Falls k t n q × (value_leq k (round k t (suc n) q) (row_value k (round k t (suc n)) (row_at t p)) ≡ true)
      go f =
          let q = f.item.target in
          let c = charge_of k f.item in (
            q,
            refuted (value_leq k (round k t n q) (round k t (suc n) q)) (λ e. both_ways _ f.fell (add_keeps k laws c (round k t n q) (round k t (suc n) q) e)),
            (values k laws).transitive _ _ _ (add_grows k laws c (round k t (suc n) q)) f.under,
          )

  longer : (n p q : ℕ) → Falls k t (suc n) p → value_leq k (round k t (suc n) q) (round k t (suc (suc n)) p) ≡ true → Chain k t n q → Chain k t (suc n) p
  longer n p q h le c = record {
    those = p ∷ c.those;
    many = rw c.many refl;
    distinct = (All-weaker (λ z. value_leq k (round k t (suc n) z) (round k t (suc n) q) ≡ true) (λ z. p ≡ z → ⊥) apart c.those c.low, c.distinct);
    low = (
      (values k laws).reflexive _,
      All-weaker (λ z. value_leq k (round k t (suc n) z) (round k t (suc n) q) ≡ true) (λ z. value_leq k (round k t (suc (suc n)) z) (round k t (suc (suc n)) p) ≡ true)
          (λ z l. (values k laws).transitive _ _ _ (never_rises k laws t (suc n) z) (under z l)) c.those c.low,
    );
    all_open = (
      falls_open (suc n) p h,
      All-weaker (λ z. (z < length t.rows) × (is_open t (round k t (suc n)) z ≡ true)) (λ z. (z < length t.rows) × (is_open t (round k t (suc (suc n))) z ≡ true))
          (λ z o. (o.0, open_later (suc n) z o.1)) c.those c.all_open,
    );
  }
    where
      under : (z : ℕ) → value_leq k (round k t (suc n) z) (round k t (suc n) q) ≡ true → value_leq k (round k t (suc n) z) (round k t (suc (suc n)) p) ≡ true
      under z l = (values k laws).transitive _ _ _ l le

      apart : (z : ℕ) → value_leq k (round k t (suc n) z) (round k t (suc n) q) ≡ true → p ≡ z → ⊥
      apart z l e = both_ways _ h (subst (λ y. value_leq k (round k t (suc n) y) (round k t (suc (suc n)) p) ≡ true) (sym e) (under z l))

  pub chain : (n p : ℕ) → Falls k t n p → Chain k t n p
  chain zero p h = record { those = p ∷ []; many = refl; distinct = (tt, tt); low = ((values k laws).reflexive _, tt); all_open = (falls_open 0 p h, tt) }
  chain (suc n) p h = let s = target_falls n p h in longer n p s.0 h s.2 (chain n s.0 s.1)

  -- a round that changes something is at most the F-th
  pub falls_few : (n p : ℕ) → Falls k t n p → suc n ≤ open_positions t (round k t (suc n))
  falls_few n p h = let c = chain n p h in rw c.many at (pigeons (is_open t (round k t (suc n))) (length t.rows) c.those c.distinct c.all_open)
