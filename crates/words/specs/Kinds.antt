-- What a word says.
use Rattle.std.specs.Prelude.{◌≡◌, ℕ, true, false, cond, List, Some, None, codes, Option, ◌≢◌}
use Rattle.std.specs.Str.Parse.{digits_value}
use Rattle.sheet_format.specs.Numbers.{is_number}
use Rattle.words.specs.declared.parts.Mark.{Mark}
use Rattle.words.specs.declared.parts.Mark.TheVariants.{Arm, Person, Rests, Moves, Accepts, Rejects}
use Rattle.words.specs.declared.parts.Word.{Word}
use Rattle.words.specs.declared.parts.Word.TheVariants as variants

-- the word of each mark
abbrev pub mark_word : Mark → List ℕ
mark_word Arm = codes "a"
mark_word Person = codes "p"
mark_word Rests = codes "r"
mark_word Moves = codes "-"
mark_word Accepts = codes "y"
mark_word Rejects = codes "n"

-- the value of a number word
abbrev pub number_word : List ℕ → Option ℕ
number_word w = cond (is_number w) (Some (digits_value 10 w)) None

-- the bytes that a word is
abbrev pub word_bytes : Word → List ℕ
word_bytes (variants.Number n s) = s.now
word_bytes (variants.Mark m s) = s.now
word_bytes (variants.Name s) = s.now

-- a word says what its bytes are: a number, else a mark, else a name
abbrev pub Says : Word → List ℕ → Type 0
Says (variants.Number n s) w = (s.now ≡ w) × (is_number w ≡ true) × (n ≡ digits_value 10 w)
Says (variants.Mark m s) w = (s.now ≡ w) × (is_number w ≡ false) × (w ≡ mark_word m)
Says (variants.Name s) w = (s.now ≡ w) × (is_number w ≡ false) × ((m : Mark) → w ≢ mark_word m)
