-- What a session promises.
use Rattle.std.specs.Prelude.{◌≡◌, true, false, ◌⊎◌, List, ◌++◌, length, Some, None}
use Rattle.board.specs.Table.{Table}
use Rattle.cells.specs.Said.{solved_by}
use Rattle.cost.specs.Kind.{Kind}
use Rattle.game.specs.Progress.{begun}
use Rattle.game.specs.Promise.{Solved, Promise, run_after}
use Rattle.game.specs.RunNumbers.{numbered}
use Rattle.game.specs.declared.parts.Event.{Event}
use Rattle.refusal.specs.Number.{refusal_number}
use Rattle.refusal.specs.declared.Refusal.{Refusal}
use Rattle.refusal.specs.declared.Refusal.TheVariants.{OverBudget, NeverDone}
use Rattle.session.specs.Attends.{CutShort}
use Rattle.session.specs.Notes.{run_log}
use Rattle.session.specs.declared.parts.Ending.{Ending}
use Rattle.session.specs.declared.parts.Ending.TheVariants.{Ended, NotBegun, Cut}
use Rattle.session.specs.declared.parts.Served.{Served}
use Rattle.session.specs.declared.parts.Shown.{Shown}

-- what a session handed back of the solved board
abbrev pub handed : {C : Type 0} → Kind C → Served C → Solved C
handed k w = solved_by k w.plan.rounds w.plan.count w.plan.cells.now

-- the cost of the start is within the budget
abbrev pub StartWithin : {C : Type 0} → Kind C → Table → C → Solved C → Type 0
StartWithin {C} k t budget s = (v : C) × (s.cost t.start ≡ Some v) × (k.leq v budget ≡ true)

-- it is over the budget
abbrev pub StartOver : {C : Type 0} → Kind C → Table → C → Solved C → Type 0
StartOver {C} k t budget s = (v : C) × (s.cost t.start ≡ Some v) × (k.leq v budget ≡ false)

-- no run began: 41 where the start is over the budget, 42 where it has no cost
abbrev pub Unbegun : {C : Type 0} → Kind C → Table → C → Solved C → Refusal → Type 0
Unbegun k t budget s why = ((why ≡ OverBudget) × (refusal_number why ≡ 41) × StartOver k t budget s) ⊎ ((why ≡ NeverDone) × (refusal_number why ≡ 42) × (s.cost t.start ≡ None))

-- the events told, and the log of the run for them
pub record Logged {C : Type 0} (k : Kind C) (t : Table) (budget : C) (s : Solved C) (told told' : List Event) (log log' : List Shown) (es : List Event) : Type 0 where
  pub within : StartWithin k t budget s
  pub told_more : told' ≡ told ++ es
  pub log_more : log' ≡ log ++ run_log k t (length t.rows) s.move (begun k t t.start) es

-- how a session ended: by the desk, with the log and the progress of the run for the events told; not begun, and nothing told or shown; or cut
abbrev pub EndsAs : {C : Type 0} → Kind C → Table → C → Solved C → List Event → List Event → List Shown → List Shown → Type 0 → Type 0 → Ending → Type 0
EndsAs k t budget s told told' log log' closed broken (Ended p) = (es : List Event) × Logged k t budget s told told' log log' es × (p ≡ numbered k (run_after k t s es)) × closed
EndsAs k t budget s told told' log log' closed broken (NotBegun why) = Unbegun k t budget s why × (told' ≡ told) × (log' ≡ log)
EndsAs k t budget s told told' log log' closed broken Cut = StartWithin k t budget s × CutShort told told' broken

-- the whole promise on what was handed back, and a log that is what the definition of a run gives for the events told
pub record Serves {C : Type 0} (k : Kind C) (t : Table) (budget : C) (told told' : List Event) (log log' : List Shown) (closed broken : Type 0) (w : Served C) : Type 0 where
  pub promise : Promise k t budget (handed k w)
  pub ending : EndsAs k t budget (handed k w) told told' log log' closed broken w.ending
