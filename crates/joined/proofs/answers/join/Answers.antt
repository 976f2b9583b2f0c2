use Rattle.std.proofs.Common.{refl}
use Rattle.joined.proofs.Wide.{whole, whole_join}
use Rattle.joined.proofs.answers.join.Goals as goal

pub returns : goal.returns
returns g c = record {
  kept = (refl, refl);
  whole = whole (g.B.Board.meaning c.args.below.now) (g.T.Task.meaning c.args.task.now);
  plays = whole_join (g.B.Board.meaning c.args.below.now) (g.T.Task.meaning c.args.task.now) (g.B.Board.ranges c.args.below.now) (g.T.Task.ranges c.args.task.now);
}
