use Rattle.std.proofs.Common.{length}
use Rattle.game.proofs.Running.{run_covered}
use Rattle.game.proofs.theorems.runs_stay_covered.Goals as goal

pub returns : goal.returns
returns g c = λ t n w e es. run_covered g.C.Cost.kind g.met.C.Cost.laws t n (length t.rows) w e es
