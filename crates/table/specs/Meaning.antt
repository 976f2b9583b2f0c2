-- What a table board means.
use Rattle.std.specs.Prelude.{ℕ, true, cond, List, [], ◌∷◌}
use Rattle.board.specs.declared.parts.Turn.TheVariants.{Arm}
use Rattle.board.specs.Ranges.{InRange}
use Rattle.board.specs.Table.{Table}
use Rattle.entries.specs.declared.Move.{Move}
use Rattle.entries.specs.declared.PositionEntry.{PositionEntry}
use Rattle.sheet_format.specs.Boards.{tables_board}
use Rattle.table.specs.declared.holder.TableBoard.{TableBoard}
use Rattle.table.specs.Fit.{tables_fit}
use Rattle.table.specs.Ranges.{fit_in_range}

-- one resting position of the arm, without signs or moves
abbrev pub idle_board : Table
idle_board = record { start = 0; rows = record { turn = Arm; label = 0; rests = true; moves = [] } ∷ [] }

-- the board of two tables and a start: the idle board where they hold none
abbrev pub board_of : List PositionEntry → List Move → ℕ → Table
board_of es ms start = cond (tables_fit es ms start) (tables_board es ms start) idle_board

-- what a table board means: the board that its tables hold
abbrev pub table_meaning : TableBoard → Table
table_meaning b = tables_board b.entries.now b.moves.now b.start

pub table_ranges : (b : TableBoard) → InRange (table_meaning b)
table_ranges b = fit_in_range b.entries.now b.moves.now b.start b.fits
