use Rattle.std.proofs.Common.{take, Option, unwrap_or, ap, ◌∙◌, rules}
use Rattle.std.proofs.lemmas.Option.{unwrap_or-slice_get}
use Rattle.cells.specs.Cells.{empty_cell}
use Rattle.cells.specs.declared.parts.Cell.{Cell}
use Rattle.cells.proofs.Asked.{unwraps}
use Rattle.solve.proofs.plan.Plan.planned.Goals as goal

pub returns : goal.returns
returns g c =
    unwraps _ empty_cell c.cell.result _ c.unwrap_or_default.ensures (λ x h. search rules)
    ∙ ap (λ (o : Option Cell). unwrap_or o empty_cell) c.cell.ensures ∙ unwrap_or-slice_get (take c.args.self.now.count c.args.self.now.cells.now) c.args.p empty_cell
