-- What a line says.
use Rattle.std.specs.Prelude.{◌≡◌, ℕ, min, List, ◌++◌, codes, ◌≢◌}
use Rattle.std.specs.Str.Parse.{digits_value}
use Rattle.game.specs.declared.parts.Event.TheVariants.{Go, There, Hand}
use Rattle.dialog.specs.declared.parts.Command.{Command}
use Rattle.dialog.specs.declared.parts.Command.TheVariants.{Told, End, Unreadable}
use Rattle.words.specs.Numerals.{Numeral}

-- a line that names a move of the person
abbrev pub Hands : List ℕ → List ℕ → Type 0
Hands line w = (line ≡ codes "hand " ++ w) × Numeral w

-- a number above 4,294,967,295 stands for that one, which is no move of any board
abbrev pub Says : List ℕ → Command → Type 0
Says line (Told Go) = line ≡ codes "go"
Says line (Told There) = line ≡ codes "there"
Says line (Told (Hand k)) = (w : List ℕ) × Hands line w × (k ≡ min (digits_value 10 w) 4294967295)
Says line End = line ≡ codes "end"
Says line Unreadable = (line ≢ codes "go") × (line ≢ codes "there") × (line ≢ codes "end") × ((w : List ℕ) → Hands line w → ⊥)
