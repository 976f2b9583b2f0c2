use Rattle.game.proofs.Holding.{person_holds}
use Rattle.game.proofs.theorems.person_holds.Goals as goal

pub returns : goal.returns
returns g c = λ t n fixed p arm lawful m rests. person_holds g.C.Cost.kind g.met.C.Cost.laws t n p arm lawful fixed m rests
