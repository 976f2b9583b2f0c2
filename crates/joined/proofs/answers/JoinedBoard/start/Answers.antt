use Rattle.std.proofs.Common.{◌<◌, length, sym, subst, arith}
use Rattle.joined.proofs.Wide.{row_fits, arrival_fits}
use Rattle.joined.proofs.answers.JoinedBoard.start.Goals as goal

pub overflow_mul-result : goal.overflow_mul-result
overflow_mul-result g c =
    let b = g.B.Board.meaning c.args.self.now.below.now in
    let d = g.T.Task.meaning c.args.self.now.task.now in
    let there : c.start-p.result < length b.rows = subst (λ p. p < length b.rows) (sym c.start-p.ensures) (g.B.Board.ranges c.args.self.now.below.now).starts in
    omega (arith, row_fits b d (g.T.Task.ranges c.args.self.now.task.now) c.in-Some.width c.in-Some.ensures c.start-p.result there)

pub overflow_add-result : goal.overflow_add-result
overflow_add-result g c =
    let b = g.B.Board.meaning c.args.self.now.below.now in
    let d = g.T.Task.meaning c.args.self.now.task.now in
    let there : c.start-p.result < length b.rows = subst (λ p. p < length b.rows) (sym c.start-p.ensures) (g.B.Board.ranges c.args.self.now.below.now).starts in
    let state : c.first.result < d.states = subst (λ z. z < d.states) (sym c.first.ensures) (g.T.Task.ranges c.args.self.now.task.now).starts in
    omega (arith, arrival_fits b d (g.T.Task.ranges c.args.self.now.task.now) c.in-Some.width c.in-Some.ensures c.start-p.result c.first.result c.state_after.result there state c.state_after.ensures)
