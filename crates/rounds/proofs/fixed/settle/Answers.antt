use Rattle.std.proofs.Common.{◌≡◌, ℕ, ◌+◌, suc, ◌++◌, take, drop, ◌∙◌, subst, arith}
use borrow.Author.Count.{below_more}
use Rattle.game.specs.Rounds.{FixedPoint}
use Rattle.cells.specs.Written.{round_cell}
use Rattle.cells.proofs.Alternate.{over_holds, over_next, over_drop, written, copied}
use Rattle.cells.proofs.Sweeps.{changed_few}
use Rattle.rounds.proofs.fixed.settle.Goals as goal

pub returns-then-not-next_cells-clause-one : goal.returns-then-not-next_cells-clause-one
returns-then-not-next_cells-clause-one g c =
    let t = g.B.Board.meaning c.args.board.now in
    let k = g.C.Cost.kind in
    let n = c.loop-two.n in
    let two = c.next_cells.new.to in
    copied k g.met.C.Cost.laws t n (c.next_cells.ensures.changed.same c.if-not-next_cells.true) c.args.one.now c.loop-two.one two c.copy.new.to c.loop-two.invariant.rest_one (over_holds k t (suc n) c.loop-two.two two c.next_cells.ensures.cells)
    (subst (λ (m : ℕ). c.copy.new.to ≡ take m two ++ drop m c.loop-two.one) c.count-count.ensures c.copy.ensures)

pub returns-then-not-next_cells-clause-two : goal.returns-then-not-next_cells-clause-two
returns-then-not-next_cells-clause-two g c =
    let t = g.B.Board.meaning c.args.board.now in
    written g.C.Cost.kind g.met.C.Cost.laws t c.loop-two.n (c.next_cells.ensures.changed.same c.if-not-next_cells.true) c.args.two.now c.loop-two.two c.next_cells.new.to c.loop-two.invariant.rest_two c.next_cells.ensures.cells

pub returns-then-not-next_cells-2-clause-one : goal.returns-then-not-next_cells-2-clause-one
returns-then-not-next_cells-2-clause-one g c =
    let t = g.B.Board.meaning c.args.board.now in
    written g.C.Cost.kind g.met.C.Cost.laws t (c.loop-two.n + 1) (c.next_cells-in-loop-two.ensures.changed.same c.if-not-next_cells-2.true) c.args.one.now c.loop-two.one c.next_cells-in-loop-two.new.to c.loop-two.invariant.rest_one c.next_cells-in-loop-two.ensures.cells

pub returns-then-not-next_cells-2-clause-two : goal.returns-then-not-next_cells-2-clause-two
returns-then-not-next_cells-2-clause-two g c =
    let t = g.B.Board.meaning c.args.board.now in
    let k = g.C.Cost.kind in
    let n = c.loop-two.n in
    let two = c.next_cells.new.to in
    let one = c.next_cells-in-loop-two.new.to in
    copied k g.met.C.Cost.laws t (n + 1) (c.next_cells-in-loop-two.ensures.changed.same c.if-not-next_cells-2.true) c.args.two.now two one c.copy-then-not-next_cells-2.new.to
    (over_drop k t (round_cell k t (suc n)) c.loop-two.two two c.next_cells.ensures.cells ∙ c.loop-two.invariant.rest_two) (over_holds k t (suc (n + 1)) c.loop-two.one one c.next_cells-in-loop-two.ensures.cells)
    (subst (λ (m : ℕ). c.copy-then-not-next_cells-2.new.to ≡ take m one ++ drop m two) c.count-count.ensures c.copy-then-not-next_cells-2.ensures)

pub loop-two-smaller : goal.loop-two-smaller
loop-two-smaller g c =
    omega (arith, changed_few g.C.Cost.kind g.met.C.Cost.laws (g.B.Board.meaning c.args.board.now) c.loop-two.n (c.next_cells.ensures.changed.other c.if-not-next_cells.false))

pub loop-two-preserved : goal.loop-two-preserved
loop-two-preserved g c =
    let t = g.B.Board.meaning c.args.board.now in
    let k = g.C.Cost.kind in
    let n = c.loop-two.n in
    let changed = c.next_cells.ensures.changed.other c.if-not-next_cells.false in
    let again = c.next_cells-in-loop-two.ensures.changed.other c.if-not-next_cells-2.false in
    let unfixed : ℕ → Type 0 = λ m. FixedPoint k t m → ⊥ in
    record {
      few = omega (arith, changed_few k g.met.C.Cost.laws t (n + 1) again);
      holds = over_next k t (n + 1) (n + 2) c.loop-two.one c.next_cells-in-loop-two.new.to (omega arith) c.next_cells-in-loop-two.ensures.cells;
      rest_one = over_drop k t (round_cell k t (suc (n + 1))) c.loop-two.one c.next_cells-in-loop-two.new.to c.next_cells-in-loop-two.ensures.cells ∙ c.loop-two.invariant.rest_one;
      rest_two = over_drop k t (round_cell k t (suc n)) c.loop-two.two c.next_cells.new.to c.next_cells.ensures.cells ∙ c.loop-two.invariant.rest_two;
      not_yet = λ m h. below_more unfixed (n + 1) (below_more unfixed n c.loop-two.invariant.not_yet changed) again m (omega arith);
    }
