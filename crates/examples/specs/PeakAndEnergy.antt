-- A board that tells peak from energy.
use Rattle.std.specs.Prelude.{◌≡◌, ℕ, true, false, [], ◌∷◌, Some}
use Rattle.board.specs.declared.parts.Step.{Step}
use Rattle.board.specs.declared.parts.Turn.TheVariants.{Arm}
use Rattle.board.specs.Table.{Table}
use Rattle.cost.specs.EnergyKind.{energy_of, energy_kind}
use Rattle.cost.specs.PeakKind.{peak_of, peak_kind}
use Rattle.game.specs.Choices.{chosen}
use Rattle.game.specs.Rounds.{round}

abbrev pub costs : ℕ → ℕ → Step
costs target energy = record { target = target; bruise = 0; energy = energy }

-- from 0 the arm comes to rest by two moves of energy 3, or by one of energy 5
abbrev pub two_ways : Table
two_ways = record {
  start = 0;
  rows = record { turn = Arm; label = 0; rests = false; moves = costs 1 3 ∷ costs 2 5 ∷ [] } ∷ record { turn = Arm; label = 0; rests = false; moves = costs 2 3 ∷ [] } ∷ record { turn = Arm; label = 0; rests = true; moves = [] } ∷ [];
}

-- by energy the one move is chosen, by peak the two
pub record PeakIsNotEnergy : Type 0 where
  pub energy : round energy_kind two_ways 2 0 ≡ Some (energy_of 5)
  pub energy_move : chosen energy_kind two_ways 2 0 ≡ Some 1
  pub peak : round peak_kind two_ways 2 0 ≡ Some (peak_of 3)
  pub peak_move : chosen peak_kind two_ways 2 0 ≡ Some 0
