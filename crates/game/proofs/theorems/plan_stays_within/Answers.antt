use Rattle.game.proofs.Planning.{play_within}
use Rattle.game.proofs.theorems.plan_stays_within.Goals as goal

pub returns : goal.returns
returns g c = play_within g.C.Cost.kind g.met.C.Cost.laws
