-- Which part of a sheet a line is, and which part of a line a word is.
use Rattle.std.specs.Prelude.{◌≡◌, ℕ, ◌+◌, ◌-◌, ◌<◌, ◌≤◌, cond, List, [], ◌∷◌, length, get_or, take, drop, Some, None, Option, nat_lt, slice_index_or, slice_range}
use Rattle.sheet_format.specs.Cuts.{first_line, words}
use Rattle.words.specs.declared.parts.Line.{Line}
use Rattle.words.specs.declared.parts.PlacedWord.{PlacedWord}
use Rattle.words.specs.Kinds.{Says, word_bytes}

-- these bytes of a sheet are the line that begins at `start`
pub record LineIs (s : List ℕ) (start : ℕ) (bytes : List ℕ) : Type 0 where
  pub first : first_line (drop start s) ≡ Some (bytes, drop (start + length bytes + 1) s)
  pub part : bytes ≡ take (length bytes) (drop start s)
  pub within : start + length bytes < length s

-- the line from one index ends with the LF at another, or has none
abbrev pub LineTo : List ℕ → ℕ → Option ℕ → Type 0
LineTo s from None = first_line (drop from s) ≡ None
LineTo s from (Some end) = (from ≤ end) × (end < length s) × LineIs s from (slice_range s from end)

-- line `number` begins at `start`, and ends with the first LF after it
abbrev pub FirstLine : List ℕ → ℕ → ℕ → Option Line → Type 0
FirstLine s start number None = first_line (drop start s) ≡ None
FirstLine s start number (Some l) = LineIs s start l.bytes.now × (l.number ≡ number) × (l.start ≡ start)

-- the words after one that ends at `end`: none if the line ends there
abbrev pub words_after : List ℕ → ℕ → List (List ℕ)
words_after l end = cond (nat_lt end (length l)) (words (drop (end + 1) l)) []

-- the word from one index ends at another
pub record WordTo (l : List ℕ) (from end : ℕ) : Type 0 where
  pub low : from ≤ end
  pub high : end ≤ length l
  pub cut : words (drop from l) ≡ slice_range l from end ∷ words_after l end

-- the word after k others begins at an index; an empty one at the end where there are no more than k
pub record WordFrom (l : List ℕ) (k at : ℕ) : Type 0 where
  pub within : at ≤ length l
  pub first : get_or (words (drop at l)) 0 [] ≡ slice_index_or (words l) k []

-- the word at a place of a line, from 1: the bytes from its column on, what they say, and where they stand
pub record WordAt (l : Line) (place : ℕ) (w : PlacedWord) : Type 0 where
  pub bytes : word_bytes w.word ≡ slice_index_or (words l.bytes.now) (place - 1) []
  pub part : word_bytes w.word ≡ take (length (word_bytes w.word)) (drop w.column l.bytes.now)
  pub says : Says w.word (word_bytes w.word)
  pub line : w.line ≡ l.number
  pub at : w.place ≡ place
