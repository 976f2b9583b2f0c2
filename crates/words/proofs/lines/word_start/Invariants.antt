use Rattle.std.proofs.Common.{◌-◌, ◌≤◌, max, length}
use Rattle.words.proofs.Cutting.{Passed}
use Rattle.words.proofs.lines.word_start.Given as goal

abbrev pub invariant-loop-k : goal.invariant-loop-k
invariant-loop-k l = (l.at ≤ length l.line) × Passed l.line (l.k - 1) l.at × (l.k ≤ max 1 l.place)
