-- What a list of cells says of a solved board.
use Rattle.std.specs.Prelude.{ℕ, List, get_or, take, slice_index_or}
use Rattle.cost.specs.Kind.{Kind}
use Rattle.game.specs.Promise.{Solved}
use Rattle.cells.specs.Cells.{empty_cell}
use Rattle.cells.specs.Written.{values_of}
use Rattle.cells.specs.declared.parts.Cell.{Cell}

-- the cell of p among the first `count`; an empty one past them
abbrev pub plan_cell : ℕ → List Cell → ℕ → Cell
plan_cell count cells p = slice_index_or (take count cells) p empty_cell

-- the number of rounds, and of each of the first `count` positions the cost and the chosen move; none past them
abbrev pub solved_by : {C : Type 0} → Kind C → ℕ → ℕ → List Cell → Solved C
solved_by k rounds count cells = record { rounds = rounds; cost = values_of k count cells; move = λ p. (get_or (take count cells) p empty_cell).choice }
