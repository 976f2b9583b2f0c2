-- The words of a line, by what each must be. A line is read as a row of numbers, one for each word.
use Rattle.std.specs.Prelude.{ℕ, suc, ◌<◌, ◌≤◌, Bool, cond, ◌&&◌, List, [], ◌∷◌, length, Some, None, Ok, Err, decimal, Option, Result, ◌==◌, nat_le, nat_lt, slice_index_or}
use Rattle.std.specs.Str.Parse.{digits_value}
use Rattle.std.specs.Str.{bytes_eq}
use Rattle.refusal.specs.declared.Refusal.{Refusal}
use Rattle.refusal.specs.declared.Refusal.TheVariants.{NotANumber, OutOfRange, WordCount}
use Rattle.sheet_format.specs.declared.LineFault.{LineFault}
use Rattle.sheet_format.specs.Numbers.{is_number}

-- one_of f ws: one of the words ws, read as its place among them, else refused by f
-- between low high: a number from low to high
-- below n: a number below n
pub data Field : Type 0 where
  one_of : Refusal → List (List ℕ) → Field
  between : ℕ → ℕ → Field
  below : ℕ → Field

abbrev pub line_fault : Refusal → ℕ → LineFault
line_fault f k = record { refusal = f; word = k }

-- go on with a value, stop at a fault
abbrev pub on_ok : {A B E : Type 0} → Result A E → (A → Result B E) → Result B E
on_ok (Ok a) f = f a
on_ok (Err e) f = Err e

abbrev pub one_further : Option ℕ → Option ℕ
one_further None = None
one_further (Some i) = Some (suc i)

-- the place of a word among others
abbrev pub place_among : List ℕ → List (List ℕ) → Option ℕ
place_among w [] = None
place_among w (v ∷ vs) = cond (bytes_eq w v) (Some 0) (one_further (place_among w vs))

abbrev pub or_refused : Refusal → Option ℕ → Result ℕ Refusal
or_refused f None = Err f
or_refused f (Some i) = Ok i

-- a number word that passes a test of its range
abbrev pub ranged : Bool → List ℕ → Result ℕ Refusal
ranged fits w = cond (is_number w) (cond fits (Ok (digits_value 10 w)) (Err OutOfRange)) (Err NotANumber)

abbrev pub read_field : Field → List ℕ → Result ℕ Refusal
read_field (one_of f vs) w = or_refused f (place_among w vs)
read_field (between low high) w = ranged (nat_le low (digits_value 10 w) && nat_le (digits_value 10 w) high) w
read_field (below n) w = ranged (nat_lt (digits_value 10 w) n) w

-- a refusal at word k
abbrev pub at_word : {A : Type 0} → ℕ → Result A Refusal → Result A LineFault
at_word k (Ok x) = Ok x
at_word k (Err f) = Err (line_fault f k)

-- the words from the left, the first being word k
abbrev pub read_row : ℕ → List Field → List (List ℕ) → Result (List ℕ) LineFault
read_row k [] ws = Ok []
read_row k (f ∷ fs) [] = Ok []
read_row k (f ∷ fs) (w ∷ ws) = on_ok (at_word k (read_field f w)) (λ x. on_ok (read_row (suc k) fs ws) (λ xs. Ok (x ∷ xs)))

-- the count of words first
abbrev pub read_fields : ℕ → List Field → List (List ℕ) → Result (List ℕ) LineFault
read_fields k fs ws = cond (length ws == length fs) (read_row k fs ws) (Err (line_fault WordCount 0))

-- what a field may hold
abbrev pub Fits : Field → ℕ → Type 0
Fits (one_of f vs) x = x < length vs
Fits (between low high) x = (low ≤ x) × (x ≤ high)
Fits (below n) x = x < n

-- how it is written
abbrev pub field_word : Field → ℕ → List ℕ
field_word (one_of f vs) x = slice_index_or vs x []
field_word (between low high) x = decimal x
field_word (below n) x = decimal x

abbrev pub RowFits : List Field → List ℕ → Type 0
RowFits [] [] = Unit {0}
RowFits [] (x ∷ xs) = ⊥
RowFits (f ∷ fs) [] = ⊥
RowFits (f ∷ fs) (x ∷ xs) = Fits f x × RowFits fs xs

abbrev pub row_words : List Field → List ℕ → List (List ℕ)
row_words [] xs = []
row_words (f ∷ fs) [] = []
row_words (f ∷ fs) (x ∷ xs) = field_word f x ∷ row_words fs xs
