use Rattle.game.proofs.Choosing.{chooses}
use Rattle.game.proofs.theorems.moves_are_chosen.Goals as goal

pub returns : goal.returns
returns g c = chooses g.C.Cost.kind g.met.C.Cost.laws
