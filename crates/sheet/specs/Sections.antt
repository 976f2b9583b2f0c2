-- A sheet taken into lists.
use Rattle.std.specs.Prelude.{◌≡◌, ◌≤◌, length, take, Ok, Err, Result}
use Rattle.sheet_format.specs.declared.Fault.{Fault}
use Rattle.sheet_format.specs.Reading.{Reading}
use Rattle.sheet_format.specs.Sheets.{Sheet, Room}
use Rattle.sheet.specs.declared.parts.Capacity.{Capacity}
use Rattle.sheet.specs.declared.parts.Lists.{Lists}
use Rattle.sheet.specs.declared.parts.Outline.{Outline}
use Rattle.sheet.specs.declared.reader.Reader.{Reader}
use Rattle.sheet.specs.Takes.{left_of}

abbrev pub room_of : Capacity → Room
room_of c = record { positions = c.positions; moves = c.moves; states = c.states; arrows = c.arrows; rules = c.rules }

-- the sheet whose entries stand at the front of lists
abbrev pub sheet_of : Outline → Lists → Sheet
sheet_of o ls = record { positions = take o.positions ls.positions; moves = take o.moves ls.moves; states = take o.states ls.states; arrows = take o.arrows ls.arrows; rules = take o.rules ls.rules; start = o.start }

-- every count lies within its list
pub record Within (o : Outline) (ls : Lists) : Type 0 where
  pub positions : o.positions ≤ length ls.positions
  pub moves : o.moves ≤ length ls.moves
  pub states : o.states ≤ length ls.states
  pub arrows : o.arrows ≤ length ls.arrows
  pub rules : o.rules ≤ length ls.rules

-- a reading of a sheet was made from one state of the reader to another, into these lists, or refused
abbrev pub TakesSheet : Reading Sheet → Reader → Reader → Lists → Result Outline Fault → Type 0
TakesSheet f a b ls (Ok o) = (f (left_of a) ≡ Ok (sheet_of o ls, left_of b)) × (b.sheet ≡ a.sheet) × Within o ls
TakesSheet f a b ls (Err e) = f (left_of a) ≡ Err e
