use Rattle.std.proofs.Common.{◌≡◌, ◌<◌, ◌≤◌, subst, ap₂, MatchResult}
use Rattle.std.proofs.lemmas.Result.{MatchResult-weaker}
use Rattle.refusal.specs.declared.Refusal.TheVariants.{JoinTooLarge}
use Rattle.refusal.specs.Number.{refusal_number}
use Rattle.joined.specs.Meant.{join_size, meant, Room}
use Rattle.twice.proofs.Double.{double_meant, size_both}
use Rattle.twice.proofs.room_for_both.Goals as goal

pub returns : goal.returns
returns g c =
    let t = g.B.Board.meaning c.args.board.now in
    let a = g.T.Task.meaning c.args.first.now in
    let b = g.U.Task.meaning c.args.second.now in
    let small : join_size t a ≤ 4096 = c.in_ok-room.ensures.few in
    let same : meant (g.B.Board.meaning c.join.result.below.now) (g.T.Task.meaning c.join.result.task.now) ≡ meant t a =
    ap₂ (λ x y. meant (g.B.Board.meaning x) (g.T.Task.meaning y)) c.join.ensures.kept.0 c.join.ensures.kept.1 in
    MatchResult-weaker c.room-2.result
    (subst (λ j. MatchResult c.room-2.result (λ _. Room j b) (λ e. (e ≡ JoinTooLarge) × (refusal_number e ≡ 22) × (4096 < join_size j b))) same c.room-2.ensures)
    (λ _ fits. record {
      first_join = small;
      second_join = fits.few;
      double_join = double_meant t a b (g.B.Board.ranges c.args.board.now) (g.T.Task.ranges c.args.first.now) (g.U.Task.ranges c.args.second.now) small fits.few;
    })
    (λ e h. (h.0, h.1, subst (λ n. 4096 < n) (size_both t a b small) h.2))
