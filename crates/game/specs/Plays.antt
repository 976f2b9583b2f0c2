-- What plays cost, and plays by a plan.
use Rattle.std.specs.Prelude.{◌≡◌, ℕ, List, [], ◌∷◌, length, Some, Option}
use Rattle.board.specs.Table.{Table, row_at}
use Rattle.board.specs.declared.parts.Turn.{Turn}
use Rattle.cost.specs.Kind.{Kind}
pub use Rattle.plays.specs.Paths.{move_of, endpoint, held}
pub use Rattle.plays.specs.Plays.{Allowed, Play}
use Rattle.game.specs.Rounds.{charge_of}

-- how many moves p has
abbrev pub degree : Table → ℕ → ℕ
degree t p = length (row_at t p).moves

-- the charges of a play added to c in order, each later one on the right
abbrev pub cost_from : {C : Type 0} → Kind C → Table → C → ℕ → List ℕ → C
cost_from k t c p [] = c
cost_from k t c p (m ∷ ms) = cost_from k t (k.add c (charge_of k (move_of t p m))) (move_of t p m).target ms

-- the cost of a play
abbrev pub play_cost : {C : Type 0} → Kind C → Table → ℕ → List ℕ → C
play_cost k t p ms = cost_from k t k.zero p ms

-- in a play from p each move of the one whose turn is named is the planned one
abbrev pub Follows : Table → (ℕ → Option ℕ) → Turn → ℕ → List ℕ → Type 0
Follows t plan turn p [] = Unit {0}
Follows t plan turn p (m ∷ ms) = ((row_at t p).turn ≡ turn → plan p ≡ Some m) × Follows t plan turn (move_of t p m).target ms
