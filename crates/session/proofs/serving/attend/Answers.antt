use Rattle.std.proofs.Common.{refl, ◌∙◌}
use Rattle.session.proofs.Attending.{attended_none, told_one}
use Rattle.session.proofs.serving.attend.Goals as goal

pub loop-init : goal.loop-init
loop-init g c = (refl, attended_none _ _ _ _ _ _ _)

pub loop-preserved : goal.loop-preserved
loop-preserved g c = (
  c.tell-answer.ensures.plan ∙ c.loop.invariant.0,
  told_one g.C.Cost.kind (g.B.Board.meaning c.args.board.now) _ c.args.run.now.plan c.loop.invariant.0 _ _ _ _ _ _ _ _ _ _ _ c.in-Some.event c.tell-answer.result c.loop.counter c.loop.invariant.1
      (c.in_ok-show-2.ensures.told ∙ c.in-Some.ensures.told) c.tell-answer.ensures.after c.tell-answer.ensures.answer c.progress-in-loop.ensures c.in-Some.ensures.log c.in_ok-show-2.ensures.log,
)
