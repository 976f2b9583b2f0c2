use Rattle.std.proofs.Common.{length}
use Rattle.rules.proofs.digits.+state_accepts.Given as goal

abbrev pub decreases-state_accepts : goal.decreases-state_accepts
decreases-state_accepts l = length l.rules.now
