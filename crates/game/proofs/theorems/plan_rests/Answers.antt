use Rattle.game.proofs.Planning.{plan_rests}
use Rattle.game.proofs.theorems.plan_rests.Goals as goal

pub returns : goal.returns
returns g c = λ t n p w e person lawful m enough. plan_rests g.C.Cost.kind g.met.C.Cost.laws t n p person lawful w e m enough
