use Rattle.std.proofs.Common.{Option, ap, ◌∙◌, rules}
use Rattle.std.specs.Option.{unwrap_or}
use Rattle.board.specs.Table.{absent_move}
use Rattle.board.specs.declared.parts.Step.{Step}
use Rattle.cells.proofs.Asked.{step_asked, unwraps}
use Rattle.cells.proofs.questions.step_at.Goals as goal

pub returns : goal.returns
returns g c =
    unwraps _ absent_move c.step.result _ c.unwrap_or_default.ensures (λ x h. search rules) ∙ ap (λ (o : Option Step). unwrap_or o absent_move) c.step.ensures ∙ step_asked (g.B.Board.meaning c.args.board.now).rows c.args.p c.args.m
