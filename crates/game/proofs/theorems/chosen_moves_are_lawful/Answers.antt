use Rattle.game.proofs.Promised.{lawful}
use Rattle.game.proofs.theorems.chosen_moves_are_lawful.Goals as goal

pub returns : goal.returns
returns g c = lawful g.C.Cost.kind g.met.C.Cost.laws
