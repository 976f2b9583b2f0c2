-- Theorem: against the person's chosen moves no arm pays less than the cost of the position, and where there is none no play rests.
use Rattle.std.specs.Prelude.{◌≡◌, ℕ, true, List, [], Some, None, ◌≢◌}
use Rattle.board.specs.Table.{Table, row_at}
use Rattle.board.specs.declared.parts.Turn.TheVariants.{Person}
use Rattle.cost.specs.Kind.{Kind}
use Rattle.game.specs.Choices.{chosen}
use Rattle.game.specs.Plays.{Play, endpoint, play_cost, Follows}
use Rattle.game.specs.Rounds.{round, FixedPoint}
use Rattle.game.specs.Strategies.{Strategy, ArmStrategy, play_of, plan_strategy}
use Rattle.game.specs.Values.{value_leq}

-- every play that rests, and in which the person's moves are the chosen ones
abbrev pub RepliesCostAtLeast : {C : Type 0} → Kind C → Type 0
RepliesCostAtLeast {C} k = (t : Table) (n : ℕ) → FixedPoint k t n → (p : ℕ) (ms : List ℕ) → Play t p ms → Follows t (chosen k t n) Person p ms
    → (row_at t (endpoint t p ms)).rests ≡ true → value_leq k (round k t n p) (Some (play_cost k t p ms)) ≡ true

-- every arm against the person's chosen moves: its play never rests, or costs at least the cost of p
abbrev pub PersonHolds : {C : Type 0} → Kind C → Type 0
PersonHolds {C} k = (t : Table) (n : ℕ) → FixedPoint k t n → (p : ℕ) (arm : Strategy) → ArmStrategy t p arm → (m : ℕ)
    → (row_at t (endpoint t p (play_of t arm (plan_strategy t (chosen k t n) p) m p []))).rests ≡ true
    → value_leq k (round k t n p) (Some (play_cost k t p (play_of t arm (plan_strategy t (chosen k t n) p) m p []))) ≡ true

-- from a position without a cost it never rests
abbrev pub NeverRests : {C : Type 0} → Kind C → Type 0
NeverRests k = (t : Table) (n : ℕ) → FixedPoint k t n → (p : ℕ) → round k t n p ≡ None → (arm : Strategy) → ArmStrategy t p arm → (m : ℕ)
    → (row_at t (endpoint t p (play_of t arm (plan_strategy t (chosen k t n) p) m p []))).rests ≢ true
