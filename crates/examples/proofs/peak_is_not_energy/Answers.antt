use Rattle.std.proofs.Common.{refl}
use Rattle.game.specs.Choices.{chosen, first_round}
use Rattle.game.specs.Rounds.{round}
use Rattle.game.specs.Values.{value_leq, value_add}
use Rattle.examples.proofs.peak_is_not_energy.Goals as goal

pub returns : goal.returns
unfolding chosen first_round round value_leq value_add
returns c = record { energy = refl; energy_move = refl; peak = refl; peak_move = refl }
