use Rattle.game.proofs.Promised.{rounds_end}
use Rattle.game.proofs.theorems.rounds_come_to_an_end.Goals as goal

pub returns : goal.returns
returns g c = rounds_end g.C.Cost.kind g.met.C.Cost.laws
