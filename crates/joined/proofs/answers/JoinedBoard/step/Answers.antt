use Rattle.std.proofs.Common.{◌/◌, ◌%◌, Some, None, Option, ap, ◌∙◌, arith}
use Rattle.board.specs.declared.parts.Step.{Step}
use Rattle.joined.proofs.Wide.{step_lands, state_below, row_fits, arrival_fits, arrival_is, wide_step}
use Rattle.joined.proofs.answers.JoinedBoard.step.Goals as goal

pub overflow_mul-target : goal.overflow_mul-target
overflow_mul-target g c =
    omega (
      arith,
      row_fits (g.B.Board.meaning c.args.self.now.below.now) (g.T.Task.meaning c.args.self.now.task.now) (g.T.Task.ranges c.args.self.now.task.now)
          c.in-Some.width c.in-Some.ensures c.in_ok-step.step.target (step_lands (g.B.Board.meaning c.args.self.now.below.now) (c.args.p / c.in-Some.width) c.args.k c.in_ok-step.step (g.B.Board.ranges c.args.self.now.below.now) c.in_ok-step.ensures),
    )

pub state_after-requires : goal.state_after-requires
state_after-requires g c = record {
  state = state_below (g.B.Board.meaning c.args.self.now.below.now) (g.T.Task.meaning c.args.self.now.task.now) (g.T.Task.ranges c.args.self.now.task.now) c.in-Some.width c.in-Some.ensures c.args.p;
  there = step_lands (g.B.Board.meaning c.args.self.now.below.now) (c.args.p / c.in-Some.width) c.args.k c.in_ok-step.step (g.B.Board.ranges c.args.self.now.below.now) c.in_ok-step.ensures;
}

pub overflow_add-target : goal.overflow_add-target
overflow_add-target g c =
    omega (
      arith,
      arrival_fits (g.B.Board.meaning c.args.self.now.below.now) (g.T.Task.meaning c.args.self.now.task.now) (g.T.Task.ranges c.args.self.now.task.now)
          c.in-Some.width c.in-Some.ensures c.in_ok-step.step.target (c.args.p % c.in-Some.width) c.state_after.result
          (step_lands (g.B.Board.meaning c.args.self.now.below.now) (c.args.p / c.in-Some.width) c.args.k c.in_ok-step.step (g.B.Board.ranges c.args.self.now.below.now) c.in_ok-step.ensures)
          (state_below (g.B.Board.meaning c.args.self.now.below.now) (g.T.Task.meaning c.args.self.now.task.now) (g.T.Task.ranges c.args.self.now.task.now) c.in-Some.width c.in-Some.ensures c.args.p) c.state_after.ensures,
    )

pub returns : goal.returns
returns g c =
    ap {B = Option Step} (λ q. Some (record { target = q; bruise = c.in_ok-step.step.bruise; energy = c.in_ok-step.step.energy }))
    (arrival_is (g.B.Board.meaning c.args.self.now.below.now) (g.T.Task.meaning c.args.self.now.task.now) (g.T.Task.ranges c.args.self.now.task.now)
    c.in-Some.width c.in-Some.ensures c.in_ok-step.step.target c.state_after.result _ c.state_after.ensures)
    ∙ wide_step (g.B.Board.meaning c.args.self.now.below.now) (g.T.Task.meaning c.args.self.now.task.now) (g.T.Task.ranges c.args.self.now.task.now)
    c.in-Some.width c.in-Some.ensures c.args.p c.args.k (Some c.in_ok-step.step) c.in_ok-step.ensures

pub returns-in_err-step : goal.returns-in_err-step
returns-in_err-step g c =
    rw c.from_residual.ensures
    (wide_step (g.B.Board.meaning c.args.self.now.below.now) (g.T.Task.meaning c.args.self.now.task.now) (g.T.Task.ranges c.args.self.now.task.now)
    c.in-Some.width c.in-Some.ensures c.args.p c.args.k None c.in_err-step.ensures)
