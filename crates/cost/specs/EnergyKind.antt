-- Energy: the energies of the moves, summed. The sum stops at the top, 4,294,967,295.
use Rattle.std.specs.Prelude.{ℕ, ◌+◌, min, nat_le}
use Rattle.std.proofs.Common.{arith}
use Rattle.cost.specs.Kind.{Kind}
use Rattle.cost.specs.declared.kinds.Energy.{Energy}

-- a number as a cost
abbrev pub energy_of : ℕ → Energy
energy_of n = record { spent = min n 4294967295; fits = omega arith }

abbrev pub energy_kind : Kind Energy
energy_kind = record {
  zero = energy_of 0;
  charge = λ bruise energy. energy_of energy;
  add = λ x y. energy_of (x.spent + y.spent);
  leq = λ x y. nat_le x.spent y.spent;
  numbers = λ x. (x.spent, 0);
  read = λ n. energy_of n.0;
}
