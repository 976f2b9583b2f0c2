-- The cells that solving leaves.
use Rattle.std.specs.Prelude.{ℕ, List, ◌++◌, map, length, drop, None}
use Rattle.std.specs.List.{range_with_len}
use Rattle.std.specs.Option.{option_map}
use Rattle.board.specs.Table.{Table}
use Rattle.cost.specs.Kind.{Kind}
use Rattle.game.specs.Choices.{first_round, chosen}
use Rattle.game.specs.Rounds.{round}
use Rattle.cells.specs.declared.parts.Cell.{Cell}

-- the cell of a position that is not there
abbrev pub empty_cell : Cell
empty_cell = record { cost = None; choice = None; round = 0 }

-- the cell of p, where the values of round n are final: its cost, its chosen move, and the first round of the cost
abbrev pub final_cell : {C : Type 0} → Kind C → Table → ℕ → ℕ → Cell
final_cell k t n p = record { cost = option_map k.numbers (round k t n p); choice = chosen k t n p; round = first_round k t n p }

-- a list with a cell of each position written to its front; the cells past the count are what they were
abbrev pub written_over : Table → (ℕ → Cell) → List Cell → List Cell
written_over t cell-of old = map cell-of (range_with_len 0 (length t.rows)) ++ drop (length t.rows) old

-- the list that solving leaves
abbrev pub solved_cells : {C : Type 0} → Kind C → Table → ℕ → List Cell → List Cell
solved_cells k t n old = written_over t (final_cell k t n) old
