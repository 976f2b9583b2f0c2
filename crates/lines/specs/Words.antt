-- The words of a line by their place.
use Rattle.std.specs.Prelude.{ℕ, ◌-◌, Bool, List, [], Ok, Err, Result, ◌==◌, slice_index_or}
use Rattle.sheet_format.specs.Cuts.{words}
use Rattle.words.specs.declared.parts.Line.{Line}

-- the word at a place, from 1; empty where there is none
abbrev pub word_at : Line → ℕ → List ℕ
word_at l place = slice_index_or (words l.bytes.now) (place - 1) []

-- a function of the value that was read
abbrev pub on_value : {A B E : Type 0} → (A → B) → Result A E → Result B E
on_value f (Ok a) = Ok (f a)
on_value f (Err e) = Err e

-- the first of two words
abbrev pub first_of_two : ℕ → Bool
first_of_two k = k == 0
