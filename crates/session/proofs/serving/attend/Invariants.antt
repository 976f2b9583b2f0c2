use Rattle.std.proofs.Common.{◌≡◌}
use Rattle.cost.specs.Numbers.{on_numbers}
use Rattle.run.specs.Answers.{plan_move}
use Rattle.session.proofs.Attending.{AttendedSome}
use Rattle.session.proofs.serving.attend.Given as goal

abbrev pub invariant-loop : goal.invariant-loop
invariant-loop g l =
    (l.run.plan ≡ l.initial.run.plan)
    × AttendedSome (on_numbers g.C.Cost.kind) (g.B.Board.meaning l.board) l.initial.run.plan.count (plan_move l.initial.run.plan) l.initial.run.progress l.run.progress (g.D.Desk.told l.initial.desk) (g.D.Desk.told l.desk) (g.D.Desk.log l.initial.desk) (g.D.Desk.log l.desk) l.counter
