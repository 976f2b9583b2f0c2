-- The board that a sheet spells, and the tables that hold it.
use Rattle.std.specs.Prelude.{◌≡◌, ℕ, suc, List, [], ◌∷◌, map, length, take, drop, filter, nat_eq, nat_lt}
use Rattle.board.specs.declared.parts.Step.{Step}
use Rattle.board.specs.Ranges.{InRange}
use Rattle.board.specs.Table.{Row, Table}
use Rattle.entries.specs.declared.Move.{Move}
use Rattle.entries.specs.declared.Position.{Position}
use Rattle.entries.specs.declared.PositionEntry.{PositionEntry}
use Rattle.sheet_format.specs.Lines.{count_from}
use Rattle.sheet_format.specs.Sheets.{Sheet, Room}
use Rattle.sheet_format.specs.WellFormed.{WellFormed}

abbrev pub step_of : Move → Step
step_of m = record { target = m.to; bruise = m.bruise; energy = m.energy }

-- a position with its moves
abbrev pub row_of : Position → List Move → Row
row_of x ms = record { turn = x.turn; label = x.label; rests = x.rests; moves = map step_of ms }

-- position p has the moves that start at it, in the sheet's order
abbrev pub rows_from : List Move → ℕ → List Position → List Row
rows_from ms p [] = []
rows_from ms p (x ∷ xs) = row_of x (filter (λ m. nat_eq m.from p) ms) ∷ rows_from ms (suc p) xs

-- the board that a sheet spells
abbrev pub sheet_board : Sheet → Table
sheet_board s = record { start = s.start.position; rows = rows_from s.moves 0 s.positions }

-- how many of the moves start before p
abbrev pub count_before : ℕ → List Move → ℕ
count_before p ms = length (filter (λ m. nat_lt m.from p) ms)

-- the position table: each position with the place of its first move and the number of its moves
abbrev pub entries_from : List Move → ℕ → List Position → List PositionEntry
entries_from ms p [] = []
entries_from ms p (x ∷ xs) = record { position = x; first = count_before p ms; degree = count_from p ms } ∷ entries_from ms (suc p) xs

abbrev pub sheet_entries : Sheet → List PositionEntry
sheet_entries s = entries_from s.moves 0 s.positions

-- the board that two tables hold
abbrev pub tables_board : List PositionEntry → List Move → ℕ → Table
tables_board es ms start = record { start = start; rows = map (λ e. row_of e.position (take e.degree (drop e.first ms))) es }

-- a well-formed sheet spells a board within the ranges, and its tables hold that board
pub record BoardLaws : Type 0 where
  pub ranges : (z : Room) (s : Sheet) → WellFormed z s → InRange (sheet_board s)
  pub tables : (z : Room) (s : Sheet) → WellFormed z s → tables_board (sheet_entries s) s.moves s.start.position ≡ sheet_board s
