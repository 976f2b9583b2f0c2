-- Reading line by line.
use Rattle.std.specs.Prelude.{ℕ, zero, suc, cond, List, [], ◌∷◌, Some, None, Ok, Err, Option, Result, nat_le, slice_index}
use Rattle.refusal.specs.declared.Refusal.{Refusal}
use Rattle.refusal.specs.declared.Refusal.TheVariants.{EndsEarly, WrongSection, ShortTable}
use Rattle.sheet_format.specs.declared.Fault.{Fault}
use Rattle.sheet_format.specs.declared.LineFault.{LineFault}
use Rattle.sheet_format.specs.Cuts.{first_line, words}
use Rattle.sheet_format.specs.Fields.{one_of, between, line_fault, on_ok, read_fields}

abbrev pub fault : Refusal → ℕ → ℕ → Fault
fault f l w = record { refusal = f; line = l; word = w }

-- what is left to read: the number of the line that is due, and the bytes from it on
pub record Left : Type 0 where
  pub line : ℕ
  pub bytes : List ℕ

abbrev pub left : ℕ → List ℕ → Left
left k bs = record { line = k; bytes = bs }

abbrev pub Reading : Type 0 → Type 0
Reading A = Left → Result (A × Left) Fault

infixl 20 ◌>>=◌
-- one reading after another
abbrev pub ◌>>=◌ : {A B : Type 0} → Reading A → (A → Reading B) → Reading B
◌>>=◌ r f l = on_ok (r l) (λ x. f x.0 x.1)

abbrev pub done : {A : Type 0} → A → Reading A
done a l = Ok (a, l)

-- how a line is read, by its words
abbrev pub LineReading : Type 0 → Type 0
LineReading A = List (List ℕ) → Result A LineFault

-- a fault within line k
abbrev pub at_line : {A : Type 0} → ℕ → Result A LineFault → Result A Fault
at_line k (Ok a) = Ok a
at_line k (Err e) = Err (fault e.refusal k e.word)

-- line k was read, and these bytes are left
abbrev pub line_read : {A : Type 0} → ℕ → List ℕ → Result A LineFault → Result (A × Left) Fault
line_read k rest (Ok a) = Ok (a, left (suc k) rest)
line_read k rest (Err e) = Err (fault e.refusal k e.word)

abbrev pub line_due : {A : Type 0} → LineReading A → ℕ → Option (List ℕ × List ℕ) → Result (A × Left) Fault
line_due f k None = Err (fault EndsEarly k 0)
line_due f k (Some x) = line_read k x.1 (f (words x.0))

-- the line that is due: refused if it is not there
abbrev pub next_line : {A : Type 0} → LineReading A → Reading A
next_line f l = line_due f l.line (first_line l.bytes)

-- n lines, each shown those before it, the last first
abbrev pub counted_lines : {A : Type 0} → ℕ → (List A → LineReading A) → List A → Reading (List A)
counted_lines zero f seen = done []
counted_lines (suc n) f seen = do
  a ← next_line (f seen)
  rest ← counted_lines n f (a ∷ seen)
  done (a ∷ rest)

-- a header: its word, its count within a range, and room in the table
abbrev pub header : List ℕ → ℕ → ℕ → ℕ → LineReading ℕ
header name low high room ws = on_ok (read_fields 1 (one_of WrongSection (name ∷ []) ∷ between low high ∷ []) ws) (λ r. cond (nat_le (slice_index r 1) room) (Ok (slice_index r 1)) (Err (line_fault ShortTable 2)))

-- a section: its header, then a line for each entry
abbrev pub section : {A : Type 0} → List ℕ → ℕ → ℕ → ℕ → (List A → LineReading A) → Reading (List A)
section name low high room f = do
  n ← next_line (header name low high room)
  counted_lines n f []
