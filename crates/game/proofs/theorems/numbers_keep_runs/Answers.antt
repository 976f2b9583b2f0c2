use Rattle.game.proofs.Numbers.{same_in_numbers}
use Rattle.game.proofs.theorems.numbers_keep_runs.Goals as goal

pub returns : goal.returns
returns g c = λ t n plan r es. same_in_numbers g.C.Cost.kind g.met.C.Cost.laws t n plan es r
