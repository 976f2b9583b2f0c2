use Rattle.std.proofs.Common.{arith}
use Rattle.cells.specs.Cells.{empty_cell}
use Rattle.cells.specs.Written.{round_cell}
use Rattle.cells.proofs.Sweeps.{front_more}
use Rattle.rounds.proofs.sweep.first_cells.Goals as goal

pub loop-p-preserved : goal.loop-p-preserved
loop-p-preserved g c =
    front_more empty_cell (round_cell g.C.Cost.kind (g.B.Board.meaning c.args.board.now) 0) c.loop-p.p c.args.to.now c.loop-p.to c.first_cell.result
    (omega (arith, c.requires, c.count-p-end.ensures, c.loop-p-test.true)) c.loop-p.invariant c.first_cell.ensures
