use Rattle.cells.proofs.Nexts.{first_is}
use Rattle.rounds.proofs.sweep.first_cell.Goals as goal

pub returns : goal.returns
returns g c =
    first_is g.C.Cost.kind g.met.C.Cost.laws (g.B.Board.meaning c.args.board.now) c.args.p c.rests_at.result c.zero.result c.numbers.result c.then_some.result c.rests_at.ensures c.zero.ensures c.numbers.ensures c.then_some.ensures
