use Rattle.std.proofs.Common.{◌≡◌, ℕ, ◌+◌, true, false, Option, sym, ap, ◌∙◌, subst}
use Rattle.game.specs.Values.{value_leq}
use Rattle.cells.specs.declared.parts.Cell.{Cell}
use Rattle.cells.proofs.Nexts.{rest_cell, kept_cell, person_cell, fallen_cell}
use Rattle.rounds.proofs.position.Round.next_cell.Goals as goal

pub returns-then-rests_at : goal.returns-then-rests_at
returns-then-rests_at g c = rest_cell g.C.Cost.kind g.met.C.Cost.laws (g.B.Board.meaning c.args.self.now.board.now) c.args.n c.args.p c.args.self.now.cells.now c.requires.1.1 c.requires.0 (sym c.if-rests_at.ensures)

pub returns-in-Arm : goal.returns-in-Arm
returns-in-Arm g c =
    kept_cell g.C.Cost.kind g.met.C.Cost.laws (g.B.Board.meaning c.args.self.now.board.now) c.args.n c.args.p c.args.self.now.cells.now c.requires.1.1 c.requires.0 (sym c.if-rests_at.ensures) c.best_move-lead.result c.best_move-lead.ensures
    (subst (λ (v : Option g.row.C.Denot). value_leq g.C.Cost.kind v c.best_move-lead.result.value ≡ true) c.read.ensures (sym c.if-not_above.ensures)) (sym c.in-Arm.ensures)

pub returns-in-Person : goal.returns-in-Person
returns-in-Person g c =
    person_cell g.C.Cost.kind g.met.C.Cost.laws (g.B.Board.meaning c.args.self.now.board.now) c.args.n c.args.p c.args.self.now.cells.now c.requires.1.1 c.requires.0 (sym c.if-rests_at.ensures) c.best_move-lead.result c.best_move-lead.ensures
    (subst (λ (v : Option g.row.C.Denot). value_leq g.C.Cost.kind v c.best_move-lead.result.value ≡ true) c.read.ensures (sym c.if-not_above.ensures)) (sym c.in-Person.ensures)

pub returns-else-not_above : goal.returns-else-not_above
returns-else-not_above g c =
    ap {B = Cell} (λ (x : Option (ℕ × ℕ)). record { cost = x; choice = c.best_move-lead.result.choice; round = c.args.n + 1 }) c.write.ensures
    ∙ fallen_cell g.C.Cost.kind g.met.C.Cost.laws (g.B.Board.meaning c.args.self.now.board.now) c.args.n c.args.p c.args.self.now.cells.now c.requires.1.1 c.requires.0 (sym c.if-rests_at.ensures) c.best_move-lead.result c.best_move-lead.ensures
    (subst (λ (v : Option g.row.C.Denot). value_leq g.C.Cost.kind v c.best_move-lead.result.value ≡ false) c.read.ensures (sym c.if-not_above.ensures))
