use Rattle.words.proofs.Digits.{NumeralSoFar}
use Rattle.words.proofs.numbers.numeral.Given as goal

abbrev pub invariant-loop-b : goal.invariant-loop-b
invariant-loop-b l = NumeralSoFar l.word l.b-index l.n
