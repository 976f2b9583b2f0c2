use Rattle.std.proofs.Common.{◌%◌, ◌&&◌, Some, None, sym, ap, ◌∙◌}
use Rattle.joined.proofs.Wide.{wide_rests, accepting_there}
use Rattle.joined.proofs.answers.JoinedBoard.rests.Goals as goal

pub returns-then-rests : goal.returns-then-rests
returns-then-rests g c =
    accepting_there (g.B.Board.meaning c.args.self.now.below.now) (g.T.Task.meaning c.args.self.now.task.now) (g.T.Task.ranges c.args.self.now.task.now)
    c.in-Some.width c.in-Some.ensures c.args.p c.accepting.result c.accepting.ensures
    ∙ ap (λ b. Some (b && (g.T.Task.meaning c.args.self.now.task.now).accepting (c.args.p % c.in-Some.width))) (sym c.if-rests.true)
    ∙ wide_rests (g.B.Board.meaning c.args.self.now.below.now) (g.T.Task.meaning c.args.self.now.task.now) (g.T.Task.ranges c.args.self.now.task.now)
    c.in-Some.width c.in-Some.ensures c.args.p (Some c.in_ok-rests.rests) c.in_ok-rests.ensures

pub returns-else-rests : goal.returns-else-rests
returns-else-rests g c =
    ap (λ b. Some (b && (g.T.Task.meaning c.args.self.now.task.now).accepting (c.args.p % c.in-Some.width))) (sym c.if-rests.false)
    ∙ wide_rests (g.B.Board.meaning c.args.self.now.below.now) (g.T.Task.meaning c.args.self.now.task.now) (g.T.Task.ranges c.args.self.now.task.now)
    c.in-Some.width c.in-Some.ensures c.args.p (Some c.in_ok-rests.rests) c.in_ok-rests.ensures

pub returns-in_err-rests : goal.returns-in_err-rests
returns-in_err-rests g c =
    rw c.from_residual.ensures
    (wide_rests (g.B.Board.meaning c.args.self.now.below.now) (g.T.Task.meaning c.args.self.now.task.now) (g.T.Task.ranges c.args.self.now.task.now)
    c.in-Some.width c.in-Some.ensures c.args.p None c.in_err-rests.ensures)
