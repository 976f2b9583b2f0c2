-- Peak: the greatest energy of a move. No cost passes the top, 4,294,967,295.
use Rattle.std.specs.Prelude.{ℕ, min, max, nat_le}
use Rattle.std.proofs.Common.{arith}
use Rattle.cost.specs.Kind.{Kind}
use Rattle.cost.specs.declared.kinds.Peak.{Peak}

-- a number as a cost
abbrev pub peak_of : ℕ → Peak
peak_of n = record { most = min n 4294967295; fits = omega arith }

abbrev pub peak_kind : Kind Peak
peak_kind = record {
  zero = peak_of 0;
  charge = λ bruise energy. peak_of energy;
  add = λ x y. peak_of (max x.most y.most);
  leq = λ x y. nat_le x.most y.most;
  numbers = λ x. (x.most, 0);
  read = λ n. peak_of n.0;
}
