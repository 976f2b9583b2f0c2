use Rattle.std.proofs.Common.{arith}
use Rattle.words.proofs.Digits.{number_is}
use Rattle.words.proofs.numbers.number.Goals as goal

pub returns : goal.returns
returns c = number_is c.args.word.now c.numeral.result (omega arith) c.numeral.ensures
