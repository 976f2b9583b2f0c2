use Rattle.game.proofs.Promised.{promised}
use Rattle.game.proofs.theorems.promise_kept.Goals as goal

pub returns : goal.returns
returns g c = promised g.C.Cost.kind g.met.C.Cost.laws
