use Rattle.std.proofs.Common.{◌≡◌, vec_items}
use Rattle.console.proofs.desk.Console.read.Given as goal

abbrev pub invariant-loop : goal.invariant-loop
invariant-loop g l = (vec_items l.self.told ≡ vec_items l.initial.self.told) × (vec_items l.self.log ≡ vec_items l.initial.self.log)
