-- What reading a sheet answers, and what it leaves in the tables.
use Rattle.std.specs.Prelude.{◌≡◌, ℕ, ◌≤◌, Bool, List, ◌++◌, length, take, drop, Ok, Err, Result}
use Rattle.entries.specs.declared.Arrow.{Arrow}
use Rattle.entries.specs.declared.Move.{Move}
use Rattle.entries.specs.declared.PositionEntry.{PositionEntry}
use Rattle.entries.specs.declared.Rule.{Rule}
use Rattle.sheet_format.specs.declared.Fault.{Fault}
use Rattle.sheet_format.specs.Read.{read_sheet}
use Rattle.sheet_format.specs.Sheets.{Sheet, Room}
use Rattle.sheet_format.specs.WellFormed.{NeverFalling}
use Rattle.sheet.specs.declared.parts.Lists.{Lists}
use Rattle.sheet.specs.declared.parts.Outline.{Outline}
use Rattle.sheet.specs.Sections.{sheet_of, Within}

-- room for as many entries as the tables have
abbrev pub room_in : List PositionEntry → List Move → List Bool → List Arrow → List Rule → Room
room_in ps ms ss as' rs = record { positions = length ps; moves = length ms; states = length ss; arrows = length as'; rules = length rs }

-- how many entries each section of a sheet has, and its start
abbrev pub outline_of : Sheet → Outline
outline_of s = record { positions = length s.positions; moves = length s.moves; states = length s.states; arrows = length s.arrows; rules = length s.rules; start = s.start }

abbrev pub outlined : Result Sheet Fault → Result Outline Fault
outlined (Ok s) = Ok (outline_of s)
outlined (Err f) = Err f

-- a table afterwards: a section's entries, and past their count what it held; a refusal leaves it as it was
abbrev pub filled : {A : Type 0} → (Sheet → List A) → Result Sheet Fault → List A → List A
filled f (Ok s) t = f s ++ drop (length (f s)) t
filled f (Err e) t = t

-- every count fits its table and its list, and no move starts below the one before it
pub record Fits (z : Room) (o : Outline) (ls : Lists) : Type 0 where
  pub within : Within o ls
  pub positions : (o.positions ≤ z.positions) × (o.positions ≤ 4096)
  pub moves : (o.moves ≤ z.moves) × (o.moves ≤ 4096)
  pub states : (o.states ≤ z.states) × (o.states ≤ 64)
  pub arrows : (o.arrows ≤ z.arrows) × (o.arrows ≤ 256)
  pub rules : (o.rules ≤ z.rules) × (o.rules ≤ 5)
  pub sorted : NeverFalling 0 (take o.moves ls.moves)

-- a sheet was read whole into lists, or refused
abbrev pub ReadsInto : Room → List ℕ → Lists → Result Outline Fault → Type 0
ReadsInto z bs ls (Ok o) = (read_sheet z bs ≡ Ok (sheet_of o ls)) × Fits z o ls
ReadsInto z bs ls (Err e) = read_sheet z bs ≡ Err e
