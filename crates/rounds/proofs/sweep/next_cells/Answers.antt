use Rattle.std.proofs.Common.{◌≡◌, ℕ, suc, length, ap, subst, arith}
use Rattle.cells.specs.Cells.{empty_cell}
use Rattle.cells.specs.Written.{round_cell}
use Rattle.cells.specs.declared.parts.Cell.{Cell}
use Rattle.cells.proofs.Reading.{long_enough}
use Rattle.cells.proofs.Sweeps.{front, front_more, Swept, swept_next, swept_all}
use Rattle.rounds.proofs.sweep.next_cells.Goals as goal

pub invariant_of-round : goal.invariant_of-round
invariant_of-round g c = record { room = long_enough g.C.Cost.kind g.met.C.Cost.laws (g.B.Board.meaning c.args.board.now) c.args.n c.args.from.now c.requires.1.1 }

pub loop-p-preserved : goal.loop-p-preserved
loop-p-preserved g c =
    let t = g.B.Board.meaning c.args.board.now in
    let k = g.C.Cost.kind in (
      front_more empty_cell (round_cell k t (suc c.args.n)) c.loop-p.p c.args.to.now c.loop-p.to c.next_cell-cell.result (omega (arith, c.requires.1.0, c.count-p-end.ensures, c.loop-p-test.true)) c.loop-p.invariant.0 c.next_cell-cell.ensures,
      swept_next k g.met.C.Cost.laws t c.args.n c.loop-p.p c.loop-p.changed c.next_cell-cell.result.round (ap (λ (x : Cell). x.round) c.next_cell-cell.ensures) c.loop-p.invariant.1,
    )

pub returns : goal.returns
returns g c =
    let t = g.B.Board.meaning c.args.board.now in
    let k = g.C.Cost.kind in
    let all : c.loop-p.p ≡ length t.rows = omega (arith, c.count-p-end.ensures) in
    record {
      cells = subst (λ (p : ℕ). c.loop-p.to ≡ front (round_cell k t (suc c.args.n)) p c.args.to.now) all c.loop-p.invariant.0;
      changed = swept_all k g.met.C.Cost.laws t c.args.n c.loop-p.changed (subst (λ (p : ℕ). Swept k t c.args.n p c.loop-p.changed) all c.loop-p.invariant.1);
    }
