use Rattle.std.proofs.Common.{◌≤◌, rules}
use Rattle.joined.specs.Meant.{join_size}
use Rattle.joined.proofs.Wide.{few_there, whole, whole_join}
use Rattle.joined.proofs.answers.room.Goals as goal

pub returns-then-is_some : goal.returns-then-is_some
returns-then-is_some g c =
    let t = g.B.Board.meaning c.args.below.now in
    let d = g.T.Task.meaning c.args.task.now in
    let few : join_size t d ≤ 4096 = few_there t d c.width.result c.width.ensures (search rules) in
    record { few = few; whole = whole t d few; joins = whole_join t d (g.B.Board.ranges c.args.below.now) (g.T.Task.ranges c.args.task.now) few }
