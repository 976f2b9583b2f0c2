-- Which bytes are a sheet.
use Rattle.std.specs.Prelude.{◌≡◌, ℕ, List, Ok, Err, Result, ◌≢◌}
use Rattle.sheet_format.specs.declared.Fault.{Fault}
use Rattle.sheet_format.specs.Sheets.{Sheet, Room}
use Rattle.sheet_format.specs.Spelling.{spelled}
use Rattle.sheet_format.specs.WellFormed.{WellFormed}
use Rattle.sheet.specs.declared.parts.Outline.{Outline}
use Rattle.sheet.specs.Filled.{outline_of}

-- accepted: the bytes spell a well-formed sheet of this outline; refused: they spell none
abbrev pub Spells : Room → List ℕ → Result Outline Fault → Type 0
Spells z bs (Ok o) = (s : Sheet) × WellFormed z s × (spelled s ≡ bs) × (outline_of s ≡ o)
Spells z bs (Err f) = (s : Sheet) → WellFormed z s → spelled s ≢ bs
