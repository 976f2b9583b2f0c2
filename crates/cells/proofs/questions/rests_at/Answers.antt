use Rattle.std.proofs.Common.{Bool, false, Option, ap, ◌∙◌}
use Rattle.std.specs.Option.{unwrap_or}
use Rattle.board.specs.Table.{Row, absent_row}
use Rattle.cells.proofs.Asked.{asked}
use Rattle.cells.proofs.questions.rests_at.Goals as goal

pub returns : goal.returns
returns g c = c.unwrap_or.ensures ∙ ap (λ (o : Option Bool). unwrap_or o false) c.rests.ensures ∙ asked (λ (r : Row). r.rests) absent_row (g.B.Board.meaning c.args.board.now).rows c.args.p
