use Rattle.std.proofs.Common.{◌≡◌, ℕ, length, Some}
use Rattle.board.specs.Table.{row_at}
use Rattle.game.specs.Plays.{move_of}
use Rattle.game.specs.Rounds.{value_through}
use Rattle.cells.specs.Leads.{turn_leq}
use Rattle.cells.specs.Written.{values_of}
use Rattle.cells.proofs.Leading.{Leading}
use Rattle.rounds.proofs.position.Round.best_move.Given as goal

abbrev pub invariant-loop-m : goal.invariant-loop-m
invariant-loop-m g l =
    let t = g.B.Board.meaning l.self.board.now in
    let k = g.C.Cost.kind in
    (i : ℕ) × (l.lead.choice ≡ Some i) × Leading (turn_leq k (row_at t l.p).turn) (λ m. value_through k (values_of k (length t.rows) l.self.cells.now) (move_of t l.p m)) l.m l.lead.value i
