use Rattle.std.proofs.Common.{◌≡◌, suc}
use Rattle.cells.specs.Written.{round_cell}
use Rattle.cells.proofs.Sweeps.{front, Swept}
use Rattle.rounds.proofs.sweep.next_cells.Given as goal

abbrev pub invariant-loop-p : goal.invariant-loop-p
invariant-loop-p g l =
    let t = g.B.Board.meaning l.board in
    let k = g.C.Cost.kind in
    (l.to ≡ front (round_cell k t (suc l.n)) l.p l.initial.to) × Swept k t l.n l.p l.changed
