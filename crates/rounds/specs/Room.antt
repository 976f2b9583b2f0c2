-- Whether two lists of cells are long enough for a board.
use Rattle.std.specs.Prelude.{◌<◌, ◌≤◌, ◌⊎◌, List, length}
use Rattle.board.specs.Table.{Table}
use Rattle.cells.specs.declared.parts.Cell.{Cell}

-- each list has a cell for every position
abbrev pub Room : Table → List Cell → List Cell → Type 0
Room t one two = (length t.rows ≤ length one) × (length t.rows ≤ length two)

-- one of them has not
abbrev pub Short : Table → List Cell → List Cell → Type 0
Short t one two = (length one < length t.rows) ⊎ (length two < length t.rows)
