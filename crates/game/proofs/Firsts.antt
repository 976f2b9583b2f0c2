-- The first round is the first in which the value stood.
use Rattle.std.proofs.Common.{◌≡◌, ℕ, zero, suc, ◌<◌, ◌≤◌, true, false, None, sym, refl, ap, ◌∙◌, subst, not-suc-le-zero, arith}
use Rattle.std.proofs.lemmas.Bool.{both_ways, cond_both, false≢true}
use Rattle.board.specs.Table.{Table, row_at}
use Rattle.cost.specs.Kind.{Kind}
use Rattle.cost.specs.Laws.{CostLaws}
use Rattle.orders.proofs.Extremes.{above_left}
use Rattle.game.specs.Choices.{first_round}
use Rattle.game.specs.Rounds.{round}
use Rattle.game.specs.Values.{value_leq, is_cost}
use Rattle.game.proofs.Ends.{stays}
use Rattle.game.proofs.Rounds.{later_lower}
use Rattle.game.proofs.Values.{values, none_high}

module _ {C : Type 0} (k : Kind C) (laws : CostLaws k) (t : Table) where
  pub first_below : (n p : ℕ) → first_round k t n p ≤ n
  unfolding first_round
  first_below zero p = omega arith
  first_below (suc n) p = step (first_below n p)
    where
      step : first_round k t n p ≤ n → first_round k t (suc n) p ≤ suc n
      step le = cond_both (value_leq k (round k t n p) (round k t (suc n) p)) (first_round k t n p) (suc n) (λ (x : ℕ). x ≤ suc n) (λ e. omega arith) (λ e. omega arith)

  pub first_is : (n p : ℕ) → round k t (first_round k t n p) p ≡ round k t n p
  unfolding first_round
  first_is zero p = refl
  first_is (suc n) p = step (first_is n p)
    where
      step : round k t (first_round k t n p) p ≡ round k t n p → round k t (first_round k t (suc n) p) p ≡ round k t (suc n) p
      step before =
          cond_both (value_leq k (round k t n p) (round k t (suc n) p)) (first_round k t n p) (suc n) (λ (x : ℕ). round k t x p ≡ round k t (suc n) p)
          (λ e. before ∙ sym (stays k laws t n p e)) (λ e. refl)

  -- in an earlier round the value was greater
  pub first_least : (n p m : ℕ) → m < first_round k t n p → value_leq k (round k t m p) (round k t n p) ≡ false
  unfolding first_round
  first_least zero p m h = absurd (not-suc-le-zero h)
  first_least (suc n) p m h = step (first_least n p m) h
    where
      step : (m < first_round k t n p → value_leq k (round k t m p) (round k t n p) ≡ false)
          → m < first_round k t (suc n) p → value_leq k (round k t m p) (round k t (suc n) p) ≡ false
      step before =
          cond_both (value_leq k (round k t n p) (round k t (suc n) p)) (first_round k t n p) (suc n) (λ (x : ℕ). m < x → value_leq k (round k t m p) (round k t (suc n) p) ≡ false)
          (λ e h. subst (λ v. value_leq k (round k t m p) v ≡ false) (sym (stays k laws t n p e)) (before h))
          (λ e h. above_left (values k laws) (round k t n p) (round k t m p) (round k t (suc n) p) e (later_lower k laws t m n p (omega arith)))

  -- a cost that is not at rest came in some round
  pub first_cost : (n p : ℕ) → (row_at t p).rests ≡ false → is_cost (round k t n p) ≡ true → (j : ℕ) × (first_round k t n p ≡ suc j)
  first_cost n p awake cost = go (first_round k t n p) refl
    where
      start_none : round k t 0 p ≡ None
      start_none = unfold round in rw awake

      go : (j : ℕ) → first_round k t n p ≡ j → (i : ℕ) × (first_round k t n p ≡ suc i)
      go zero e = absurd (false≢true (ap is_cost (sym start_none ∙ ap (λ (x : ℕ). round k t x p) (sym e) ∙ first_is n p) ∙ cost))
      go (suc j) e = (j, e)

  -- 0 for none
  pub first_none : (n p : ℕ) → round k t n p ≡ None → first_round k t n p ≡ 0
  first_none n p none = go (first_round k t n p) refl
    where
      go : (j : ℕ) → first_round k t n p ≡ j → first_round k t n p ≡ 0
      go zero e = e
      go (suc j) e =
          absurd (both_ways (value_leq k (round k t 0 p) (round k t n p)) (first_least n p 0 (omega arith))
          (subst (λ v. value_leq k (round k t 0 p) v ≡ true) (sym none) (none_high k laws (round k t 0 p))))
