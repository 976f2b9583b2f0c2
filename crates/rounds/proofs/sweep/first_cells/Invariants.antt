use Rattle.std.proofs.Common.{◌≡◌}
use Rattle.cells.specs.Written.{round_cell}
use Rattle.cells.proofs.Sweeps.{front}
use Rattle.rounds.proofs.sweep.first_cells.Given as goal

abbrev pub invariant-loop-p : goal.invariant-loop-p
invariant-loop-p g l = l.to ≡ front (round_cell g.C.Cost.kind (g.B.Board.meaning l.board) 0) l.p l.initial.to
