use Rattle.game.proofs.Holding.{never_rests}
use Rattle.game.proofs.theorems.never_rests.Goals as goal

pub returns : goal.returns
returns g c = λ t n fixed p none arm lawful m rests. never_rests g.C.Cost.kind g.met.C.Cost.laws t n p arm lawful fixed none m rests
