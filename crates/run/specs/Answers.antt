-- What a run asks of its plan, and answers to an event.
use Rattle.std.specs.Prelude.{ℕ, cond, ◌==◌, Ok, Err, Option, Result}
use Rattle.cells.specs.Said.{plan_cell}
use Rattle.game.specs.Events.{Outcome, refused, begins, makes}
use Rattle.refusal.specs.declared.Refusal.{Refusal}
use Rattle.refusal.specs.declared.Refusal.TheVariants.{OtherCount, RunEnded, UnfitEvent, NoSuchMove}
use Rattle.solve.specs.declared.plan.Plan.{Plan}
use Rattle.run.specs.declared.parts.Answer.{Answer}
use Rattle.run.specs.declared.parts.Answer.TheVariants.{Begins, Made}

-- the refusal of an event that has this number: 50, 51, 52 or 53
abbrev pub event_refusal : ℕ → Refusal
event_refusal n = cond (n == 50) OtherCount (cond (n == 51) RunEnded (cond (n == 52) UnfitEvent NoSuchMove))

-- the refusal, or the move that the arm begins, or that a move was made
abbrev pub answer_of : Outcome → Result Answer Refusal
answer_of (refused x) = Err (event_refusal x)
answer_of (begins m) = Ok (Begins m)
answer_of (makes m) = Ok Made

-- the chosen move that a plan has for p
abbrev pub plan_move : {C : Type 0} → Plan C → ℕ → Option ℕ
plan_move plan p = (plan_cell plan.count plan.cells.now p).choice
