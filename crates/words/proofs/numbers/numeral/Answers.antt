use Rattle.std.proofs.Common.{rules}
use Rattle.words.proofs.Digits.{digit_more}
use Rattle.words.proofs.numbers.numeral.Goals as goal

pub loop-b-preserved : goal.loop-b-preserved
loop-b-preserved c =
    digit_more c.args.word.now c.loop-b.b-index c.loop-b.n c.with_digit-n.result c.loop-b-test.true (search rules) (search rules) c.loop-b.invariant (search rules)
