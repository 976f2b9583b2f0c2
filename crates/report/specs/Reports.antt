-- The report on a sheet.
use Rattle.std.specs.Prelude.{◌≡◌, ℕ, List, [], ◌∷◌, ◌++◌, length, Ok, Err, Result}
use Rattle.board.specs.Table.{Table}
use Rattle.cells.specs.Cells.{final_cell}
use Rattle.cost.specs.CareKind.{care_kind}
use Rattle.cost.specs.EnergyKind.{energy_kind}
use Rattle.cost.specs.Kind.{Kind}
use Rattle.cost.specs.PeakKind.{peak_kind}
use Rattle.entries.specs.declared.Start.{Start}
use Rattle.game.specs.Promise.{Promise}
use Rattle.game.specs.Rounds.{round, NumberOfRounds}
use Rattle.game.specs.RunsKeep.{solution}
use Rattle.listing.specs.Listing.{listing}
use Rattle.load.specs.Boards.{task_board}
use Rattle.sheet_format.specs.Faults.{fault_text}
use Rattle.sheet_format.specs.Sheets.{Sheet}
use Rattle.sheet_format.specs.declared.Fault.{Fault}
use Rattle.solve.specs.Verdicts.{verdict_of}
use Rattle.wording.specs.declared.kinds.CostKind.{CostKind}
use Rattle.wording.specs.declared.kinds.CostKind.TheVariants.{Energy, Peak, Care}

-- the budget of a start line, in a kind of cost
abbrev pub budget_of : {C : Type 0} → Kind C → Start → C
budget_of k s = k.charge s.bruise s.energy

-- the listing of a board for a kind of cost, its number of rounds being n
abbrev pub kind_listing : {C : Type 0} → CostKind → Kind C → Table → Start → ℕ → List ℕ
kind_listing named k t s n = listing named t (length t.rows) t.start n (verdict_of k (budget_of k s) (round k t n t.start)) (final_cell k t n)

-- the text is the listing for a kind of cost, and the costs and moves that it lists keep the promise
pub record ListsKind {C : Type 0} (named : CostKind) (k : Kind C) (t : Table) (s : Start) (text : List ℕ) : Type 0 where
  pub rounds : ℕ
  pub number : NumberOfRounds k t rounds
  pub lists : text ≡ kind_listing named k t s rounds
  pub promise : Promise k t (budget_of k s) (solution k t rounds)

-- the text is the listings for the three kinds
pub record ListsBoard (t : Table) (s : Start) (text : List ℕ) : Type 0 where
  pub energy : List ℕ
  pub peak : List ℕ
  pub care : List ℕ
  pub whole : text ≡ energy ++ (peak ++ care)
  pub energy_lists : ListsKind Energy energy_kind t s energy
  pub peak_lists : ListsKind Peak peak_kind t s peak
  pub care_lists : ListsKind Care care_kind t s care

-- a text grew by a listing
abbrev pub AppendsKind : {C : Type 0} → CostKind → Kind C → Table → Start → List ℕ → List ℕ → Type 0
AppendsKind named k t s old new = (text : List ℕ) × ListsKind named k t s text × (new ≡ old ++ text)

abbrev pub AppendsKinds : Table → Start → List ℕ → List ℕ → Type 0
AppendsKinds t s old new = (text : List ℕ) × ListsBoard t s text × (new ≡ old ++ text)

-- what is reported of a sheet that was loaded, or refused with a fault
abbrev pub Reported : Result Sheet Fault → List ℕ → Type 0
Reported (Ok s) text = ListsBoard (task_board s) s.start text
Reported (Err f) text = text ≡ fault_text f ++ (10 ∷ [])
