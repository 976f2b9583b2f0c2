use Rattle.std.proofs.Common.{vec_items, arith}
use Rattle.flat.proofs.Copies.{copied_next}
use Rattle.flat.proofs.holder.FlatBoard.copy.Goals as goal

pub loop-p-preserved : goal.loop-p-preserved
loop-p-preserved g c =
    copied_next (g.B.Board.meaning c.args.board.now) c.loop-p.p (vec_items c.loop-p.rows) (vec_items c.push.new.self) (vec_items c.loop-p.steps) (vec_items c.push_moves.new.steps) c.in_ok-row.row
    (g.B.Board.ranges c.args.board.now) (omega arith) c.loop-p.invariant c.in_ok-push.ensures.items c.in_ok-row.ensures.moves c.in_ok-row.ensures.row c.in_ok-row.ensures.among
