-- First rounds and the arm's choices from one round to the next: they stay where the value stays.
use Rattle.std.proofs.Common.{◌≡◌, ℕ, suc, true, false, Option, sym, ap, ◌∙◌, ap₂}
use Rattle.board.specs.Table.{Table, row_at}
use Rattle.board.specs.declared.parts.Turn.TheVariants.{Arm}
use Rattle.cost.specs.Kind.{Kind}
use Rattle.cost.specs.Laws.{CostLaws}
use Rattle.orders.specs.Lowest.{lowest}
use Rattle.game.specs.Choices.{first_round, arm_choice, chosen}
use Rattle.game.specs.Rounds.{value_through, round}
use Rattle.game.specs.Strategies.{ToMove}
use Rattle.game.specs.Values.{value_leq}
use Rattle.game.proofs.Ends.{stays}
use Rattle.game.proofs.Moves.{chosen_arm}

module _ {C : Type 0} (k : Kind C) (laws : CostLaws k) (t : Table) (n p : ℕ) where
  pub stays_first : value_leq k (round k t n p) (round k t (suc n) p) ≡ true → first_round k t (suc n) p ≡ first_round k t n p
  unfolding first_round
  stays_first e = rw e

  pub falls_first : value_leq k (round k t n p) (round k t (suc n) p) ≡ false → first_round k t (suc n) p ≡ suc n
  unfolding first_round
  falls_first e = rw e

  pub stays_chosen : value_leq k (round k t n p) (round k t (suc n) p) ≡ true → ToMove t p Arm → chosen k t (suc n) p ≡ chosen k t n p
  stays_chosen e m =
      chosen_arm k laws t (suc n) p m
      ∙ ap₂ (λ (v : Option C) (j : ℕ). arm_choice k t v j (row_at t p)) (stays k laws t n p e) (stays_first e)
      ∙ sym (chosen_arm k laws t n p m)

  pub falls_chosen : value_leq k (round k t n p) (round k t (suc n) p) ≡ false → ToMove t p Arm
      → chosen k t (suc n) p ≡ lowest (λ s. value_leq k (value_through k (round k t n) s) (round k t (suc n) p)) (row_at t p).moves
  falls_chosen e m = chosen_arm k laws t (suc n) p m ∙ ap (λ (j : ℕ). arm_choice k t (round k t (suc n) p) j (row_at t p)) (falls_first e)
