use Rattle.std.proofs.Common.{ℕ, length, Option, ap, ◌∙◌}
use Rattle.std.specs.Option.{unwrap_or}
use Rattle.board.specs.Table.{Row, absent_row}
use Rattle.cells.proofs.Asked.{asked}
use Rattle.cells.proofs.questions.degree_at.Goals as goal

pub returns : goal.returns
returns g c = c.unwrap_or.ensures ∙ ap (λ (o : Option ℕ). unwrap_or o 0) c.degree.ensures ∙ asked (λ (r : Row). length r.moves) absent_row (g.B.Board.meaning c.args.board.now).rows c.args.p
