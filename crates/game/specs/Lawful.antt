-- Theorem: who makes the chosen moves is an arm and a person, and one against the other pays just the cost of the position.
use Rattle.std.specs.Prelude.{◌≡◌, ℕ, ◌≤◌, [], Some}
use Rattle.board.specs.Table.{Table}
use Rattle.cost.specs.Kind.{Kind}
use Rattle.game.specs.Choices.{chosen}
use Rattle.game.specs.Open.{open_positions}
use Rattle.game.specs.Plays.{play_cost}
use Rattle.game.specs.Rounds.{round, FixedPoint}
use Rattle.game.specs.Strategies.{ArmStrategy, PersonStrategy, play_of, plan_strategy}

pub record Lawful {C : Type 0} (k : Kind C) (t : Table) (n p : ℕ) : Type 0 where
  pub arm : ArmStrategy t p (plan_strategy t (chosen k t n) p)
  pub person : PersonStrategy t p (plan_strategy t (chosen k t n) p)
  -- so the cost of p is the least that an arm can make sure of, and the most that a person can
  pub exact : (w : C) → round k t n p ≡ Some w → (m : ℕ) → open_positions t (round k t n) ≤ m
      → play_cost k t p (play_of t (plan_strategy t (chosen k t n) p) (plan_strategy t (chosen k t n) p) m p []) ≡ w

abbrev pub ChosenMovesAreLawful : {C : Type 0} → Kind C → Type 0
ChosenMovesAreLawful k = (t : Table) (n : ℕ) → FixedPoint k t n → (p : ℕ) → Lawful k t n p
