use Rattle.game.proofs.Holding.{pays_back}
use Rattle.game.proofs.theorems.replies_cost_at_least.Goals as goal

pub returns : goal.returns
returns g c = pays_back g.C.Cost.kind g.met.C.Cost.laws
