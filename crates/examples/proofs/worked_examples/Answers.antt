use Rattle.std.proofs.Common.{refl}
use Rattle.std.specs.Fmt.{digits}
use Rattle.game.specs.Choices.{chosen, first_round}
use Rattle.game.specs.Rounds.{round}
use Rattle.game.specs.Values.{value_leq, value_add}
use Rattle.task.specs.Signs.{has_sign}
use Rattle.examples.proofs.Checked.{all_hold}
use Rattle.examples.proofs.worked_examples.Goals as goal
use Rattle.examples.specs.Worked.{examples}

pub returns : goal.returns
unfolding chosen digits first_round has_sign round value_add value_leq
returns c = all_hold examples (refl, (refl, (refl, (refl, (refl, (refl, (refl, (refl, (refl, (refl, (refl, (refl, (refl, (refl, (refl, (refl, (refl, (refl, ((refl, refl), ((refl, refl), ((refl, refl), (refl, (refl, tt)))))))))))))))))))))))
