-- The table that a list of positions and a list of moves hold.
use Rattle.std.specs.Prelude.{ℕ, ◌+◌, ◌<◌, ◌≤◌, false, List, map, length, take, drop, slice_index_or}
use Rattle.board.specs.declared.parts.Step.{Step}
use Rattle.board.specs.declared.parts.Turn.TheVariants.{Arm}
use Rattle.board.specs.Table.{Row, Table}
use Rattle.flat.specs.declared.parts.FlatRow.{FlatRow}

-- the row of a position: its moves are `degree` of the moves, from `first` on
abbrev pub row_of : List Step → FlatRow → Row
row_of steps r = record { turn = r.turn; label = r.label; rests = r.rests; moves = take r.degree (drop r.first steps) }

-- position p is element p of the positions
abbrev pub flat_table : List FlatRow → List Step → ℕ → Table
flat_table rows steps start = record { start = start; rows = map (row_of steps) rows }

-- the position that stands for one that is not there
abbrev pub absent_flat : FlatRow
absent_flat = record { turn = Arm; label = 0; rests = false; first = 0; degree = 0 }

-- the moves of a position are among the moves
abbrev pub Among : List Step → FlatRow → Type 0
Among steps r = r.first + r.degree ≤ length steps

-- the moves of each position are among the moves
abbrev pub Inside : List FlatRow → List Step → Type 0
Inside rows steps = (p : ℕ) → p < length rows → Among steps (slice_index_or rows p absent_flat)
