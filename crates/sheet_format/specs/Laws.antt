-- What is read is what is written.
use Rattle.std.specs.Prelude.{◌≡◌, ℕ, ◌≤◌, List, ◌++◌, length, Ok, Err, ◌≢◌}
use Rattle.refusal.specs.declared.Refusal.TheVariants.{EndsEarly}
use Rattle.sheet_format.specs.declared.Fault.{Fault}
use Rattle.sheet_format.specs.Read.{read_sheet}
use Rattle.sheet_format.specs.Sheets.{Sheet, Room}
use Rattle.sheet_format.specs.Spelling.{spelled}
use Rattle.sheet_format.specs.WellFormed.{WellFormed}

-- every well-formed sheet, once written, is read back
abbrev pub ReadsBack : Type 0
ReadsBack = (z : Room) (s : Sheet) → WellFormed z s → read_sheet z (spelled s) ≡ Ok s

-- whatever is read is the spelling of a well-formed sheet
abbrev pub OnlySpellings : Type 0
OnlySpellings = (z : Room) (bs : List ℕ) (s : Sheet) → read_sheet z bs ≡ Ok s → WellFormed z s × (spelled s ≡ bs)

-- whatever is put after a refused sheet, it is refused alike, unless it ended early
abbrev pub RefusalStays : Type 0
RefusalStays = (z : Room) (bs rest : List ℕ) (f : Fault) → read_sheet z bs ≡ Err f → (f.refusal ≢ EndsEarly) → length (bs ++ rest) ≤ 65536 → read_sheet z (bs ++ rest) ≡ Err f

-- the laws of the format
pub record FormatLaws : Type 0 where
  pub reads_back : ReadsBack
  pub only_spellings : OnlySpellings
  pub refusal_stays : RefusalStays
