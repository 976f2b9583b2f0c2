use Rattle.std.proofs.Common.{◌≡◌, ℕ, not, length, Option, sym, refl, ap, ◌∙◌, subst, arith}
use Rattle.board.specs.Table.{row_at}
use Rattle.board.specs.declared.parts.Turn.{Turn}
use Rattle.game.specs.Plays.{degree, move_of}
use Rattle.game.specs.Rounds.{value_through}
use Rattle.cells.specs.Leads.{turn_leq}
use Rattle.cells.specs.Written.{values_of}
use Rattle.cells.specs.declared.parts.Lead.{Lead}
use Rattle.cells.proofs.Leading.{Leading, turn_order, leads_first, leads_better, leads_kept, leads_all}
use Rattle.rounds.proofs.position.Round.best_move.Goals.{then-better, else-better}
use Rattle.rounds.proofs.position.Round.best_move.Goals as goal

pub loop-m-init : goal.loop-m-init
loop-m-init g c =
    let t = g.B.Board.meaning c.args.self.now.board.now in
    let k = g.C.Cost.kind in
    let f : ℕ → Option g.row.C.Denot = λ m. value_through k (values_of k (length t.rows) c.args.self.now.cells.now) (move_of t c.args.p m) in
    (0, refl, leads_first (turn_order k g.met.C.Cost.laws (row_at t c.args.p).turn) f c.move_value-first.result (sym c.move_value-first.ensures))

pub loop-m-preserved : goal.loop-m-preserved
loop-m-preserved g c =
    let t = g.B.Board.meaning c.args.self.now.board.now in
    let k = g.C.Cost.kind in
    let o = turn_order k g.met.C.Cost.laws (row_at t c.args.p).turn in
    let f : ℕ → Option g.row.C.Denot = λ m. value_through k (values_of k (length t.rows) c.args.self.now.cells.now) (move_of t c.args.p m) in
    let lead = c.loop-m.lead in
    let i = c.loop-m.invariant.0 in
    let leading = c.loop-m.invariant.2 in
    let next = c.move_value-value.result in
    let compared : not (turn_leq k (row_at t c.args.p).turn lead.value next) ≡ c.better.result =
    subst (λ (x : Turn). not (turn_leq k x lead.value next) ≡ c.better.result) c.turn_at-turn.ensures (sym c.better.ensures) in
    elim c.if-better.branch [
      | then-better w ↦ (c.loop-m.m, ap (λ (l : Lead g.row.C.Denot). l.choice) w.lead-is, leads_better o f c.loop-m.m i lead.value next leading (sym c.move_value-value.ensures) (compared ∙ w.if-better.true) _ _ (ap (λ (l : Lead g.row.C.Denot). l.value) w.lead-is) refl)
      | else-better w ↦ (i, ap (λ (l : Lead g.row.C.Denot). l.choice) w.lead-is ∙ c.loop-m.invariant.1, leads_kept o f c.loop-m.m i lead.value next leading (sym c.move_value-value.ensures) (compared ∙ w.if-better.false) _ _ (ap (λ (l : Lead g.row.C.Denot). l.value) w.lead-is) refl)
    ]

pub returns : goal.returns
returns g c =
    let t = g.B.Board.meaning c.args.self.now.board.now in
    let k = g.C.Cost.kind in
    let w = values_of k (length t.rows) c.args.self.now.cells.now in
    let all : c.loop-m.m ≡ degree t c.args.p = omega (arith, c.degree_at-degree.ensures) in
    let lead = c.loop-m.lead in
    let i = c.loop-m.invariant.0 in
    let best = leads_all k g.met.C.Cost.laws w (row_at t c.args.p) lead.value i
    (subst (λ (n : ℕ). Leading (turn_leq k (row_at t c.args.p).turn) (λ m. value_through k w (move_of t c.args.p m)) n lead.value i) all c.loop-m.invariant.2) in
    record { value = best.value; choice = c.loop-m.invariant.1 ∙ best.choice }
