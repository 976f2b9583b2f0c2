-- Care: bruise and energy, the bruise compared first. The top is 4,294,967,295.
use Rattle.std.specs.Prelude.{ℕ, ◌+◌, min, Bool, cond, ◌&&◌, ◌||◌, ◌==◌, nat_le, nat_lt}
use Rattle.std.proofs.Common.{arith}
use Rattle.cost.specs.Kind.{Kind}
use Rattle.cost.specs.declared.kinds.Care.{Care}

-- two numbers as a cost, each stopping at the top
abbrev pub care_of : ℕ → ℕ → Care
care_of b e = record { bruise = min b 4294967295; energy = min e 4294967295; fits = omega arith }

-- the energy of a sum: the top where the bruises pass the top, otherwise the energies summed
abbrev pub care_energy : Care → Care → ℕ
care_energy x y = cond (nat_le (x.bruise + y.bruise) 4294967295) (x.energy + y.energy) 4294967295

-- the lesser bruise, and where the bruises are one the energy
abbrev pub care_leq : Care → Care → Bool
care_leq x y = nat_lt x.bruise y.bruise || (x.bruise == y.bruise && nat_le x.energy y.energy)

abbrev pub care_kind : Kind Care
care_kind = record {
  zero = care_of 0 0;
  charge = care_of;
  add = λ x y. care_of (x.bruise + y.bruise) (care_energy x y);
  leq = care_leq;
  numbers = λ x. (x.bruise, x.energy);
  read = λ n. care_of n.0 n.1;
}
