use Rattle.std.proofs.Common.{leb, ◌∙◌, ap₂}
use Rattle.cost.specs.CareLaws.{packed_order}
use Rattle.cost.proofs.care.CareCost.at_most.Goals as goal

pub returns : goal.returns
returns c = ap₂ leb c.packed.ensures c.packed-2.ensures ∙ packed_order c.args.self c.args.other
