use Rattle.std.proofs.Common.{◌≡◌, ◌≤◌, eqb, take}
use Rattle.std.specs.List.{count_by}
use Rattle.lines.proofs.moves.count_starts.Given as goal

abbrev pub invariant-loop-m : goal.invariant-loop-m
invariant-loop-m l = (l.n ≤ l.m-index) × (l.n ≡ count_by (λ m. eqb m.from l.from) (take l.m-index l.moves))
