-- What loading a sheet answers.
use Rattle.std.specs.Prelude.{◌≡◌, ℕ, List, Ok, Err, Result}
use Rattle.flat.specs.Meaning.{flat_meaning}
use Rattle.sheet_format.specs.Boards.{sheet_entries}
use Rattle.sheet_format.specs.Read.{read_sheet}
use Rattle.sheet_format.specs.Sheets.{Sheet}
use Rattle.sheet_format.specs.WellFormed.{WellFormed}
use Rattle.load.specs.Boards.{task_board, largest_room, load_sheet, FinishesTask}
use Rattle.load.specs.declared.parts.Bench.{Bench}
use Rattle.load.specs.declared.parts.LoadError.{LoadError}
use Rattle.load.specs.declared.parts.LoadError.TheVariants.{Refused, Memory}
use Rattle.load.specs.declared.tables.Tables.{Tables}

-- the tables hold the sheet that the bytes spell
pub record IsTables (bs : List ℕ) (t : Tables) : Type 0 where
  pub sheet : Sheet
  pub reads : read_sheet largest_room bs ≡ Ok sheet
  pub well : WellFormed largest_room sheet
  pub positions : t.positions.items ≡ sheet_entries sheet
  pub moves : t.moves.items ≡ sheet.moves
  pub states : t.states.items ≡ sheet.states
  pub arrows : t.arrows.items ≡ sheet.arrows
  pub rules : t.rules.items ≡ sheet.rules
  pub start : t.start ≡ sheet.start

-- the tables of the bytes, or their fault, or no memory
abbrev pub ReadsTables : List ℕ → Result Tables LoadError → Type 0
ReadsTables bs (Ok t) = IsTables bs t
ReadsTables bs (Err (Refused f)) = read_sheet largest_room bs ≡ Err f
ReadsTables bs (Err Memory) = Unit {0}

-- the board that was loaded is that of the sheet that the bytes spell
pub record IsBench (bs : List ℕ) (b : Bench) : Type 0 where
  pub sheet : Sheet
  pub reads : load_sheet bs ≡ Ok sheet
  pub means : flat_meaning b.board ≡ task_board sheet
  pub starts : b.start ≡ sheet.start
  pub task : FinishesTask sheet (flat_meaning b.board)

-- the bench of the bytes, or their fault, or no memory
abbrev pub Loads : List ℕ → Result Bench LoadError → Type 0
Loads bs (Ok b) = IsBench bs b
Loads bs (Err (Refused f)) = load_sheet bs ≡ Err f
Loads bs (Err Memory) = Unit {0}
