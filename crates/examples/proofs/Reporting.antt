-- The report on a sheet, worked out.
use Rattle.std.proofs.Common.{ℕ, List, [], ◌∷◌, ◌++◌, Ok, Err, Result, refl}
use Rattle.board.specs.Table.{Table}
use Rattle.cost.specs.CareLaws.{care_laws}
use Rattle.cost.specs.EnergyLaws.{energy_laws}
use Rattle.cost.specs.PeakLaws.{peak_laws}
use Rattle.cost.specs.CareKind.{care_kind}
use Rattle.cost.specs.EnergyKind.{energy_kind}
use Rattle.cost.specs.Kind.{Kind}
use Rattle.cost.specs.Laws.{CostLaws}
use Rattle.cost.specs.PeakKind.{peak_kind}
use Rattle.entries.specs.declared.Start.{Start}
use Rattle.game.proofs.Promised.{promised}
use Rattle.load.specs.Boards.{task_board}
use Rattle.report.specs.Reports.{budget_of, kind_listing, ListsKind, Reported}
use Rattle.sheet_format.specs.Sheets.{Sheet}
use Rattle.sheet_format.specs.declared.Fault.{Fault}
use Rattle.sheet_format.specs.Faults.{fault_text}
use Rattle.wording.specs.declared.kinds.CostKind.{CostKind}
use Rattle.wording.specs.declared.kinds.CostKind.TheVariants.{Energy, Peak, Care}
use Rattle.examples.proofs.Settled.{rounds_of, rounds_are}

-- the listing for a kind of cost
abbrev pub kind_text : {C : Type 0} → CostKind → Kind C → Table → Start → List ℕ
kind_text named k t s = kind_listing named k t s (rounds_of k t)

-- the three listings
abbrev pub board_text : Table → Start → List ℕ
board_text t s = kind_text Energy energy_kind t s ++ (kind_text Peak peak_kind t s ++ kind_text Care care_kind t s)

-- the listings of the sheet's board, or the sheet's fault
abbrev pub report_text : Result Sheet Fault → List ℕ
report_text (Ok s) = board_text (task_board s) s.start
report_text (Err f) = fault_text f ++ (10 ∷ [])

kind_lists : {C : Type 0} (named : CostKind) (k : Kind C) (laws : CostLaws k) (t : Table) (s : Start) → ListsKind named k t s (kind_text named k t s)
kind_lists named k laws t s = record {
  rounds = rounds_of k t;
  number = rounds_are k t laws;
  lists = refl;
  promise = promised k laws t (rounds_of k t) (rounds_are k t laws) (budget_of k s);
}

-- it is what a report says
pub reported : (r : Result Sheet Fault) → Reported r (report_text r)
reported (Ok s) = record {
  energy = kind_text Energy energy_kind (task_board s) s.start;
  peak = kind_text Peak peak_kind (task_board s) s.start;
  care = kind_text Care care_kind (task_board s) s.start;
  whole = refl;
  energy_lists = kind_lists Energy energy_kind energy_laws (task_board s) s.start;
  peak_lists = kind_lists Peak peak_kind peak_laws (task_board s) s.start;
  care_lists = kind_lists Care care_kind care_laws (task_board s) s.start;
}
reported (Err f) = refl
