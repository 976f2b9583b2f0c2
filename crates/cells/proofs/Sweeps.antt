-- Writing the cells of a round one after another, and what this shows of the round.
use Rattle.std.proofs.Common.{◌≡◌, ℕ, suc, ◌+◌, ◌<◌, ◌≤◌, Bool, true, false, ◌||◌, nat_lt, List, [], ◌∷◌, ◌++◌, map, length, get_or, take, drop, set, sym, refl, ap, ◌∙◌, subst, ⊎_elim, arith}
use mathlib.Core.Path.{fun_ext}
use Rattle.std.proofs.lemmas.List.FromFn.{length-map-range_with_len, map-range_with_len_more}
use Rattle.std.proofs.lemmas.List.{append_assoc, drop_more, set_at, take_at, drop_at}
use Rattle.std.proofs.lemmas.Bool.{cases_Bool, cases_lt, true≢false, ltb-true, ltb-false}
use Rattle.std.specs.List.{range_with_len}
use Rattle.board.specs.Table.{Table}
use Rattle.cost.specs.Kind.{Kind}
use Rattle.cost.specs.Laws.{CostLaws}
use Rattle.orders.proofs.Pigeons.{count_below}
use Rattle.game.specs.Choices.{first_round}
use Rattle.game.specs.Open.{is_open}
use Rattle.game.specs.Rounds.{round, FixedPoint}
use Rattle.game.specs.Values.{value_leq}
use Rattle.game.proofs.Chains.{Falls, falls_few}
use Rattle.game.proofs.Ends.{stays, fixed_or_falls}
use Rattle.game.proofs.Firsts.{first_below}
use Rattle.game.proofs.Rounds.{outside}
use Rattle.game.proofs.Steps.{stays_first, falls_first}
use Rattle.game.proofs.Values.{values}
use Rattle.cells.specs.Cells.{final_cell}
use Rattle.cells.specs.Written.{round_cell, Tells}
use Rattle.cells.proofs.Nexts.{cell_is_final}

-- the first p items written, the rest as they were
abbrev pub front : {X : Type 0} → (ℕ → X) → ℕ → List X → List X
front f p old = map f (range_with_len 0 p) ++ drop p old

pub front_more : {X : Type 0} (d : X) (f : ℕ → X) (p : ℕ) (old now : List X) (x : X) → p < length old → now ≡ front f p old → x ≡ f p → set now p x ≡ front f (p + 1) old
front_more d f p old now x h is e =
    ap (λ xs. set xs p x) (is ∙ ap (λ ys. map f (range_with_len 0 p) ++ ys) (drop_more old p d h))
    ∙ set_at (map f (range_with_len 0 p)) (get_or old p d) (drop (p + 1) old) x p (length-map-range_with_len f 0 p)
    ∙ ap (λ y. map f (range_with_len 0 p) ++ (y ∷ drop (p + 1) old)) e
    ∙ sym (append_assoc (map f (range_with_len 0 p)) (f p ∷ []) (drop (p + 1) old))
    ∙ ap (λ ys. ys ++ drop (p + 1) old) (sym (map-range_with_len_more f 0 p p (omega arith)))

pub front_take : {X : Type 0} (f : ℕ → X) (p : ℕ) (old : List X) → take p (front f p old) ≡ map f (range_with_len 0 p)
front_take f p old = take_at (map f (range_with_len 0 p)) (drop p old) p (length-map-range_with_len f 0 p)

pub front_drop : {X : Type 0} (f : ℕ → X) (p : ℕ) (old : List X) → drop p (front f p old) ≡ drop p old
front_drop f p old = drop_at (map f (range_with_len 0 p)) (drop p old) p (length-map-range_with_len f 0 p)

-- whether a position below p has changed in round n + 1
pub record Swept {C : Type 0} (k : Kind C) (t : Table) (n p : ℕ) (changed : Bool) : Type 0 where
  pub same : changed ≡ false → (q : ℕ) → q < p → first_round k t (suc n) q ≤ n
  pub other : changed ≡ true → (q : ℕ) × (n < first_round k t (suc n) q)

module _ {C : Type 0} (k : Kind C) (laws : CostLaws k) (t : Table) (n : ℕ) where
  pub swept_changed : (p : ℕ) → n < first_round k t (suc n) p → Swept k t n (p + 1) true
  swept_changed p h = record { same = λ e. absurd (true≢false e); other = λ e. (p, h) }

  pub swept_same : (p : ℕ) (changed : Bool) → Swept k t n p changed → first_round k t (suc n) p ≤ n → Swept k t n (p + 1) changed
  swept_same p changed s h = record {
    same = λ e q l. ⊎_elim (λ (b : q < p). s.same e q b) (λ (b : p ≤ q). let i : p ≡ q = omega arith in subst (λ (x : ℕ). first_round k t (suc n) x ≤ n) i h) (cases_lt q p);
    other = s.other;
  }

  -- the position p has r for the first round of its value
  pub swept_next : (p : ℕ) (changed : Bool) (r : ℕ) → r ≡ first_round k t (suc n) p → Swept k t n p changed → Swept k t n (p + 1) (changed || nat_lt n r)
  swept_next p changed r is s = go changed (nat_lt n r) s refl
    where
      go : (c b : Bool) → Swept k t n p c → nat_lt n r ≡ b → Swept k t n (p + 1) (c || b)
      go true b l e = record { same = λ f. absurd (true≢false f); other = l.other }
      go false true l e = swept_changed p (omega (arith, is, ltb-true _ _ e))
      go false false l e = swept_same p false l (omega (arith, is, ltb-false _ _ e))

  pub swept_all : (changed : Bool) → Swept k t n (length t.rows) changed → Tells k t n changed
  swept_all changed s = record { same = fixed; other = not_fixed }
    where
      kept : (q : ℕ) → first_round k t (suc n) q ≤ n → round k t (suc n) q ≡ round k t n q
      kept q h =
          ⊎_elim (λ (e : value_leq k (round k t n q) (round k t (suc n) q) ≡ true). stays k laws t n q e)
          (λ (e : value_leq k (round k t n q) (round k t (suc n) q) ≡ false). absurd (omega (arith, h, falls_first k laws t n q e))) (cases_Bool (value_leq k (round k t n q) (round k t (suc n) q)))

      fixed : changed ≡ false → FixedPoint k t n
      fixed e q =
          ⊎_elim (λ (h : q < length t.rows). kept q (s.same e q h)) (λ (h : length t.rows ≤ q). outside k laws t (suc n) q h ∙ sym (outside k laws t n q h)) (cases_lt q (length t.rows))

      not_fixed : changed ≡ true → FixedPoint k t n → ⊥
      not_fixed e still =
          let found = s.other e in
          omega (arith, found.1, first_below k laws t n found.0, stays_first k laws t n found.0 (subst (λ v. value_leq k (round k t n found.0) v ≡ true) (sym (still found.0)) ((values k laws).reflexive _)))

  -- a round that changes something is at most the last position's
  pub changed_few : (FixedPoint k t n → ⊥) → suc n ≤ length t.rows
  changed_few h = ⊎_elim (λ (fixed : FixedPoint k t n). absurd (h fixed)) few (fixed_or_falls k laws t n)
    where
      few : (p : ℕ) × Falls k t n p → suc n ≤ length t.rows
      few f = omega (arith, falls_few k laws t n f.0 f.1, count_below (is_open t (round k t (suc n))) (length t.rows))

  -- the cells of a round that changed nothing are the final cells
  pub finals : FixedPoint k t n → (xs : List ℕ) → map (round_cell k t (suc n)) xs ≡ map (final_cell k t n) xs
  finals fixed xs = ap (λ f. map f xs) (fun_ext (cell_is_final k laws t n fixed))
