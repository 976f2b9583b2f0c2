use Rattle.std.proofs.Common.{◌≡◌, ◌++◌, take, vec_items}
use Rattle.board.specs.Table.{row_at}
use Rattle.flat.proofs.making.push_moves.Given as goal

abbrev pub invariant-loop-k : goal.invariant-loop-k
invariant-loop-k g l = vec_items l.steps ≡ vec_items l.initial.steps ++ take l.k (row_at (g.B.Board.meaning l.board) l.p).moves
