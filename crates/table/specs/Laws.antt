-- What the test of tables tells, and the board of a sheet's tables.
use Rattle.std.specs.Prelude.{◌≡◌, ℕ, List, Decides}
use Rattle.entries.specs.declared.Move.{Move}
use Rattle.entries.specs.declared.PositionEntry.{PositionEntry}
use Rattle.sheet_format.specs.Boards.{sheet_board, sheet_entries}
use Rattle.sheet_format.specs.Sheets.{Sheet, Room}
use Rattle.sheet_format.specs.WellFormed.{WellFormed}
use Rattle.table.specs.Fit.{TablesHold, tables_fit}
use Rattle.table.specs.Meaning.{board_of}

-- the test passes exactly the tables that hold a board
abbrev pub TestsHold : Type 0
TestsHold = (es : List PositionEntry) (ms : List Move) (start : ℕ) → Decides (tables_fit es ms start) (TablesHold es ms start)

-- the tables of a well-formed sheet hold a board, the one that the sheet spells
abbrev pub SheetsHold : Type 0
SheetsHold = (z : Room) (s : Sheet) → WellFormed z s → TablesHold (sheet_entries s) s.moves s.start.position × (board_of (sheet_entries s) s.moves s.start.position ≡ sheet_board s)
