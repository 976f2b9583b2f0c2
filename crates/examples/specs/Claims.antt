-- What a worked example claims.
use Rattle.std.specs.Prelude.{◌≡◌, ℕ, Bool, List, [], ◌∷◌, length, None, Ok, Err, Decides, Result}
use Rattle.board.specs.Table.{Table}
use Rattle.cost.specs.CareKind.{care_kind}
use Rattle.cost.specs.EnergyKind.{energy_kind}
use Rattle.cost.specs.Kind.{Kind}
use Rattle.cost.specs.declared.kinds.Care.{Care}
use Rattle.entries.specs.declared.Rule.{Rule}
use Rattle.entries.specs.declared.Start.{Start}
use Rattle.game.specs.Choices.{chosen}
use Rattle.game.specs.Progress.{begun}
use Rattle.game.specs.Rounds.{round, NumberOfRounds}
use Rattle.game.specs.declared.parts.Event.{Event}
use Rattle.load.specs.Boards.{load_sheet, task_board}
use Rattle.refusal.specs.Number.{refusal_number}
use Rattle.refusal.specs.declared.Refusal.{Refusal}
use Rattle.report.specs.Reports.{budget_of, Reported}
use Rattle.rules.specs.Digits.{rules_dfa}
use Rattle.rules.specs.Holds.{Holds as RuleHolds}
use Rattle.run.specs.Begins.{begin_refusal}
use Rattle.session.specs.Notes.{run_log}
use Rattle.session.specs.declared.parts.Shown.{Shown}
use Rattle.sheet_format.specs.Sheets.{Sheet}
use Rattle.sheet_format.specs.declared.Fault.{Fault}
use Rattle.solve.specs.Verdicts.{verdict_of}
use Rattle.task.specs.Dfa.{accepts}

-- reports: what is reported of the sheet of these bytes
-- starts: where the board of that sheet starts, its tasks joined
-- judges: whether a rule lets a list of labels pass
-- adds: two cares, what comes first on the left, and their sum
-- runs: what a run by energy on that sheet logs for some events
-- numbers: the number of a refusal
pub data Example : Type 0 where
  reports : List ℕ → List ℕ → Example
  starts : List ℕ → ℕ → Example
  judges : Rule → List ℕ → Bool → Example
  adds : Care → Care → Care → Example
  runs : List ℕ → List Event → List Shown → Example
  numbers : Refusal → ℕ → Example

-- a claim about the sheet that was loaded; of a fault it is false
abbrev pub OfSheet : (Sheet → Type 0) → Result Sheet Fault → Type 0
OfSheet P (Ok s) = P s
OfSheet P (Err f) = ⊥

-- a run by the chosen moves begins, and this is its log for these events
pub record Logs {C : Type 0} (k : Kind C) (t : Table) (s : Start) (events : List Event) (log : List Shown) : Type 0 where
  pub rounds : ℕ
  pub number : NumberOfRounds k t rounds
  pub begins : begin_refusal t (length t.rows) (verdict_of k (budget_of k s) (round k t rounds t.start)) ≡ None
  pub logged : run_log k t (length t.rows) (chosen k t rounds) (begun k t t.start) events ≡ log

-- the claim of an example
abbrev pub Holds : Example → Type 0
Holds (reports sheet text) = Reported (load_sheet sheet) text
Holds (starts sheet position) = OfSheet (λ s. (task_board s).start ≡ position) (load_sheet sheet)
Holds (judges rule labels passes) = (accepts (rules_dfa (rule ∷ [])) labels ≡ passes) × Decides passes (RuleHolds rule labels)
Holds (adds first later sum) = care_kind.add first later ≡ sum
Holds (runs sheet events log) = OfSheet (λ s. Logs energy_kind (task_board s) s.start events log) (load_sheet sheet)
Holds (numbers refusal number) = refusal_number refusal ≡ number
