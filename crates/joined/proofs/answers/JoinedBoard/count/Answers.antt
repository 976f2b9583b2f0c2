use Rattle.std.proofs.Common.{rules}
use Rattle.joined.proofs.Wide.{count_is}
use Rattle.joined.proofs.answers.JoinedBoard.count.Goals as goal

pub returns : goal.returns
returns g c =
    count_is (g.B.Board.meaning c.args.self.now.below.now) (g.T.Task.meaning c.args.self.now.task.now) c.width.result c.count-count.result c.map_or.result c.width.ensures c.count-count.ensures (search rules)
