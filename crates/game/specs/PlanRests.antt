-- Theorem: by the plan's moves every play rests, within F moves, for at most the cost of the position.
use Rattle.std.specs.Prelude.{◌≡◌, ℕ, ◌≤◌, true, List, [], length, Some}
use Rattle.board.specs.Table.{Table}
use Rattle.board.specs.declared.parts.Turn.TheVariants.{Arm}
use Rattle.cost.specs.Kind.{Kind}
use Rattle.orders.specs.Counting.{Distinct}
use Rattle.game.specs.Choices.{chosen}
use Rattle.game.specs.Open.{open_positions}
use Rattle.game.specs.Plays.{Play, endpoint, held, play_cost, Follows}
use Rattle.game.specs.Promise.{Rests}
use Rattle.game.specs.Rounds.{round}
use Rattle.game.specs.Strategies.{Strategy, PersonStrategy, play_of, plan_strategy}

-- a play from p, whose cost is w: few moves, no position twice, and the cost so far with the cost of where it stands is within w
pub record Within {C : Type 0} (k : Kind C) (t : Table) (n p : ℕ) (w : C) (ms : List ℕ) : Type 0 where
  pub short : length ms ≤ open_positions t (round k t n)
  pub distinct : Distinct (held t p ms)
  pub covered : (v : C) × (round k t n (endpoint t p ms) ≡ Some v) × (k.leq (k.add (play_cost k t p ms) v) w ≡ true)

-- every play in which the arm's moves are the chosen ones, at any time
abbrev pub PlanStaysWithin : {C : Type 0} → Kind C → Type 0
PlanStaysWithin {C} k = (t : Table) (n p : ℕ) (w : C) → round k t n p ≡ Some w
    → (ms : List ℕ) → Play t p ms → Follows t (chosen k t n) Arm p ms → Within k t n p w ms

-- the plan against every person, given F moves or more
abbrev pub PlanRests : {C : Type 0} → Kind C → Type 0
PlanRests {C} k = (t : Table) (n p : ℕ) (w : C) → round k t n p ≡ Some w
    → (person : Strategy) → PersonStrategy t p person → (m : ℕ) → open_positions t (round k t n) ≤ m
    → Rests k t p (open_positions t (round k t n)) w (play_of t (plan_strategy t (chosen k t n) p) person m p [])
