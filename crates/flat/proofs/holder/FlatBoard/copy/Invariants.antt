use Rattle.std.proofs.Common.{vec_items}
use Rattle.flat.proofs.Copies.{Copied}
use Rattle.flat.proofs.holder.FlatBoard.copy.Given as goal

abbrev pub invariant-loop-p : goal.invariant-loop-p
invariant-loop-p g l = Copied (g.B.Board.meaning l.board) l.p (vec_items l.rows) (vec_items l.steps)
