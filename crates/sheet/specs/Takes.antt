-- What a reader takes off a sheet.
use Rattle.std.specs.Prelude.{◌≡◌, ℕ, suc, ◌≤◌, List, length, take, drop, Some, None, Ok, Err, Result}
use Rattle.refusal.specs.declared.Refusal.TheVariants.{EndsEarly}
use Rattle.sheet_format.specs.declared.Fault.{Fault}
use Rattle.sheet_format.specs.declared.LineFault.{LineFault}
use Rattle.sheet_format.specs.Cuts.{first_line, words}
use Rattle.sheet_format.specs.Reading.{Left, left, LineReading, Reading, fault}
use Rattle.words.specs.declared.parts.Line.{Line}
use Rattle.sheet.specs.declared.reader.Reader.{Reader}

-- what is left to read
abbrev pub left_of : Reader → Left
left_of a = left a.line (drop a.at a.sheet.now)

-- the line that is due
abbrev pub NextLine : Reader → Reader → Result Line Fault → Type 0
NextLine a b (Ok l) = (first_line (drop a.at a.sheet.now) ≡ Some (l.bytes.now, drop b.at a.sheet.now)) × (b.sheet ≡ a.sheet) × (b.line ≡ suc a.line) × (l.number ≡ a.line)
NextLine a b (Err f) = (first_line (drop a.at a.sheet.now) ≡ None) × (f ≡ fault EndsEarly a.line 0)

-- what is read of a line is what this reading gives of its words
abbrev pub Reads : {A : Type 0} → (Line → Result A LineFault → Type 0) → LineReading A → Type 0
Reads {A} reads f = (line : Line) (r : Result A LineFault) → reads line r → r ≡ f (words line.bytes.now)

-- a reading was made from one state of the reader to another, with this value, or refused
abbrev pub Takes : {A : Type 0} → Reading A → Reader → Reader → Result A Fault → Type 0
Takes f a b (Ok x) = (f (left_of a) ≡ Ok (x, left_of b)) × (b.sheet ≡ a.sheet)
Takes f a b (Err e) = f (left_of a) ≡ Err e

-- the same for a list of at most so many entries, which stands at the front of a table
abbrev pub TakesInto : {A : Type 0} → Reading (List A) → ℕ → Reader → Reader → List A → Result ℕ Fault → Type 0
TakesInto f most a b table (Ok n) = (f (left_of a) ≡ Ok (take n table, left_of b)) × (b.sheet ≡ a.sheet) × (n ≤ length table) × (n ≤ most)
TakesInto f most a b table (Err e) = f (left_of a) ≡ Err e
