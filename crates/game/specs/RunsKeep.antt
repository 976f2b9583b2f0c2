-- Theorem: a run on its own board stays covered, whatever events it is told.
use Rattle.std.specs.Prelude.{◌≡◌, ℕ, List, Some}
use Rattle.board.specs.Table.{Table}
use Rattle.cost.specs.Kind.{Kind}
use Rattle.game.specs.Choices.{chosen}
use Rattle.game.specs.Promise.{Solved, Covered, run_after, run_moves}
use Rattle.game.specs.Rounds.{round}
use Rattle.game.specs.declared.parts.Event.{Event}

-- what n rounds give: their values and the chosen moves
abbrev pub solution : {C : Type 0} → Kind C → Table → ℕ → Solved C
solution k t n = record { rounds = n; cost = round k t n; move = chosen k t n }

abbrev pub RunsStayCovered : {C : Type 0} → Kind C → Type 0
RunsStayCovered {C} k = (t : Table) (n : ℕ) (w : C) → round k t n t.start ≡ Some w → (es : List Event)
    → Covered k t (solution k t n) w (run_moves k t (solution k t n) es) (run_after k t (solution k t n) es)
