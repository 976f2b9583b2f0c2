-- A kind of cost over the two numbers of its costs.
use Rattle.std.specs.Prelude.{ℕ}
use Rattle.cost.specs.Kind.{Kind}

-- each answer is worked out on the costs that the numbers stand for, and kept as its numbers
abbrev pub on_numbers : {C : Type 0} → Kind C → Kind (ℕ × ℕ)
on_numbers k = record {
  zero = k.numbers k.zero;
  charge = λ bruise energy. k.numbers (k.charge bruise energy);
  add = λ x y. k.numbers (k.add (k.read x) (k.read y));
  leq = λ x y. k.leq (k.read x) (k.read y);
  numbers = λ x. x;
  read = λ x. x;
}
