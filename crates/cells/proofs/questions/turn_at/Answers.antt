use Rattle.std.proofs.Common.{Option, ap, ◌∙◌}
use Rattle.std.specs.Option.{unwrap_or}
use Rattle.board.specs.Table.{Row, absent_row}
use Rattle.board.specs.declared.parts.Turn.{Turn}
use Rattle.board.specs.declared.parts.Turn.TheVariants.{Arm}
use Rattle.cells.proofs.Asked.{asked}
use Rattle.cells.proofs.questions.turn_at.Goals as goal

pub returns : goal.returns
returns g c = c.unwrap_or.ensures ∙ ap (λ (o : Option Turn). unwrap_or o Arm) c.turn.ensures ∙ asked (λ (r : Row). r.turn) absent_row (g.B.Board.meaning c.args.board.now).rows c.args.p
