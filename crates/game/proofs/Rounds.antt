-- Rounds never rise.
use Rattle.std.proofs.Common.{◌≡◌, ℕ, zero, suc, ◌≤◌, Bool, true, false, List, map, length, Some, None, Option, refl, ⊎_elim}
use native.Mathlib.Decide.{le_ind}
use lib.ListN.{get_or-eq_default}
use Rattle.std.proofs.lemmas.Bool.{both_ways, cases_Bool}
use Rattle.board.specs.Table.{Row, Table, row_at, absent_row}
use Rattle.board.specs.declared.parts.Step.{Step}
use Rattle.board.specs.declared.parts.Turn.{Turn}
use Rattle.board.specs.declared.parts.Turn.TheVariants.{Arm, Person}
use Rattle.cost.specs.Kind.{Kind}
use Rattle.cost.specs.Laws.{CostLaws}
use Rattle.orders.proofs.Extremes.{Fallen, least_fell, greatest_fell}
use Rattle.game.specs.Values.{value_leq}
use Rattle.game.specs.Rounds.{charge_of, value_through, best, row_value, round}
use Rattle.game.proofs.Values.{values, none_high, add_keeps}

module _ {C : Type 0} (k : Kind C) (laws : CostLaws k) where
  best_fell : (turn : Turn) (f g : Step → Option C) (ms : List Step) → value_leq k (best k turn (map g ms)) (best k turn (map f ms)) ≡ false
      → Fallen (value_leq k) f g (best k turn (map f ms))
  best_fell Arm f g ms h = least_fell (values k laws) None f g ms h
  best_fell Person f g ms h = greatest_fell (values k laws) None f g ms h

  -- where the value of a row fell from v to w, it does not rest, and a move fell to no more
  pub row_fell : (w v : ℕ → Option C) (r : Row) → value_leq k (row_value k v r) (row_value k w r) ≡ false
      → (r.rests ≡ false) × Fallen (value_leq k) (value_through k w) (value_through k v) (row_value k w r)
  row_fell w v r h = go r.rests refl
    where
      go : (b : Bool) → r.rests ≡ b → (r.rests ≡ false) × Fallen (value_leq k) (value_through k w) (value_through k v) (row_value k w r)
      go true e = absurd (both_ways (value_leq k (Some k.zero) (Some k.zero)) (rw e at h) ((values k laws).reflexive _))
      go false e = (e, rw e (best_fell r.turn (value_through k w) (value_through k v) r.moves (rw e at h)))

  -- one round keeps the order of values
  pub row_kept : (w v : ℕ → Option C) → ((p : ℕ) → value_leq k (w p) (v p) ≡ true) → (r : Row) → value_leq k (row_value k w r) (row_value k v r) ≡ true
  row_kept w v h r = ⊎_elim (λ e. e) (λ e. absurd (no_fall (row_fell v w r e).1)) (cases_Bool (value_leq k (row_value k w r) (row_value k v r)))
    where
      no_fall : Fallen (value_leq k) (value_through k v) (value_through k w) (row_value k v r) → ⊥
      no_fall f = both_ways _ f.fell (add_keeps k laws (charge_of k f.item) (w f.item.target) (v f.item.target) (h f.item.target))

  module _ (t : Table) where
    pub never_rises : (n p : ℕ) → value_leq k (round k t (suc n) p) (round k t n p) ≡ true
    unfolding round
    never_rises zero p = go (row_at t p).rests refl
      where
        go : (b : Bool) → (row_at t p).rests ≡ b → value_leq k (round k t 1 p) (round k t 0 p) ≡ true
        go true e = rw e ((values k laws).reflexive (Some k.zero))
        go false e = rw e (none_high k laws _)
    never_rises (suc n) p = row_kept (round k t (suc n)) (round k t n) (never_rises n) (row_at t p)

    pub later_lower : (m n p : ℕ) → m ≤ n → value_leq k (round k t n p) (round k t m p) ≡ true
    later_lower m n p h =
        le_ind (λ i. value_leq k (round k t i p) (round k t m p) ≡ true) ((values k laws).reflexive _)
        (λ i _ below. (values k laws).transitive _ _ _ (never_rises i p) below) n h

    -- at rest every round has zero
    pub resting : (n p : ℕ) → (row_at t p).rests ≡ true → round k t n p ≡ Some k.zero
    unfolding round
    resting zero p e = rw e
    resting (suc n) p e = rw e

    -- a position that is not there has none in every round
    pub outside : (n p : ℕ) → length t.rows ≤ p → round k t n p ≡ None
    unfolding round
    outside zero p h = rw (get_or-eq_default t.rows absent_row h)
    outside (suc n) p h = rw (get_or-eq_default t.rows absent_row h)
