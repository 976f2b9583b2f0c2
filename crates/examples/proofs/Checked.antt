-- An example holds if what is worked out comes to what it claims.
use Rattle.std.proofs.Common.{◌≡◌, ℕ, List, [], ◌∷◌, length, None, Ok, Err, Result, sym, subst}
use Rattle.std.proofs.ByRecursion.{All-weaker}
use Rattle.std.proofs.lemmas.Bool.Decides.{Decides-at, Decides-like}
use Rattle.std.specs.List.{AllByRecursion}
use Rattle.board.specs.Table.{Table}
use Rattle.cost.specs.CareLaws.{care_same}
use Rattle.cost.specs.EnergyLaws.{energy_laws}
use Rattle.cost.specs.CareKind.{care_kind}
use Rattle.cost.specs.EnergyKind.{energy_kind}
use Rattle.entries.specs.declared.Start.{Start}
use Rattle.game.specs.Choices.{chosen}
use Rattle.game.specs.Progress.{begun}
use Rattle.game.specs.Rounds.{round}
use Rattle.game.specs.declared.parts.Event.{Event}
use Rattle.load.specs.Boards.{load_sheet, task_board}
use Rattle.report.specs.Reports.{budget_of, Reported}
use Rattle.rules.proofs.Each.{rules_are}
use Rattle.rules.specs.Digits.{rules_dfa}
use Rattle.run.specs.Begins.{begin_refusal}
use Rattle.session.specs.Notes.{run_log}
use Rattle.session.specs.declared.parts.Shown.{Shown}
use Rattle.sheet_format.specs.Sheets.{Sheet}
use Rattle.sheet_format.specs.declared.Fault.{Fault}
use Rattle.solve.specs.Verdicts.{verdict_of}
use Rattle.task.specs.Dfa.{accepts}
use Rattle.examples.proofs.Reporting.{report_text, reported}
use Rattle.examples.proofs.Settled.{rounds_of, rounds_are}
use Rattle.examples.specs.Claims.{Example, reports, starts, judges, adds, runs, numbers, OfSheet, Logs, Holds}

-- a run begins, and this is its log, the number of rounds being n
abbrev pub RunComes : Table → Start → List Event → List Shown → ℕ → Type 0
RunComes t s events log n =
    (begin_refusal t (length t.rows) (verdict_of energy_kind (budget_of energy_kind s) (round energy_kind t n t.start)) ≡ None)
    × (run_log energy_kind t (length t.rows) (chosen energy_kind t n) (begun energy_kind t t.start) events ≡ log)

-- the claim as equations, the number of rounds worked out
abbrev pub Comes : Example → Type 0
Comes (reports sheet text) = report_text (load_sheet sheet) ≡ text
Comes (starts sheet position) = Holds (starts sheet position)
Comes (judges rule labels passes) = accepts (rules_dfa (rule ∷ [])) labels ≡ passes
Comes (adds first later sum) = ((care_kind.add first later).bruise ≡ sum.bruise) × ((care_kind.add first later).energy ≡ sum.energy)
Comes (runs sheet events log) = OfSheet (λ s. RunComes (task_board s) s.start events log (rounds_of energy_kind (task_board s))) (load_sheet sheet)
Comes (numbers refusal number) = Holds (numbers refusal number)

of_sheet : (P Q : Sheet → Type 0) → ((s : Sheet) → P s → Q s) → (r : Result Sheet Fault) → OfSheet P r → OfSheet Q r
of_sheet P Q f (Ok s) h = f s h
of_sheet P Q f (Err e) h = h

comes_holds : (e : Example) → Comes e → Holds e
comes_holds (reports sheet text) h = subst (Reported (load_sheet sheet)) h (reported (load_sheet sheet))
comes_holds (starts sheet position) h = h
comes_holds (judges rule labels passes) h = (h, Decides-at passes _ (sym h) (Decides-like _ (λ all. all.0) (λ one. (one, tt)) (rules_are (rule ∷ []) labels)))
comes_holds (adds first later sum) h = care_same _ _ h.0 h.1
comes_holds (runs sheet events log) h =
    of_sheet (λ s. RunComes (task_board s) s.start events log (rounds_of energy_kind (task_board s))) (λ s. Logs energy_kind (task_board s) s.start events log)
    (λ s come. record { rounds = rounds_of energy_kind (task_board s); number = rounds_are energy_kind (task_board s) energy_laws; begins = come.0; logged = come.1 })
    (load_sheet sheet) h
comes_holds (numbers refusal number) h = h

pub all_hold : (es : List Example) → AllByRecursion Comes es → AllByRecursion Holds es
all_hold es h = All-weaker Comes Holds comes_holds es h
