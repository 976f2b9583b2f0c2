-- The laws of a kind of cost. Adding need not commute, and need not keep the order on its right.
use Rattle.std.specs.Prelude.{◌≡◌, Bool, true, ◌⊎◌}
use Rattle.cost.specs.Kind.{Kind}

-- a total order, given by its test
pub record Order {V : Type 0} (leq : V → V → Bool) : Type 0 where
  pub reflexive : (x : V) → leq x x ≡ true
  pub transitive : (x y z : V) → leq x y ≡ true → leq y z ≡ true → leq x z ≡ true
  pub antisymmetric : (x y : V) → leq x y ≡ true → leq y x ≡ true → x ≡ y
  pub total : (x y : V) → (leq x y ≡ true) ⊎ (leq y x ≡ true)

pub record CostLaws {C : Type 0} (k : Kind C) : Type 0 where
  -- the two numbers give the cost back
  pub reads_back : (x : C) → k.read (k.numbers x) ≡ x
  pub order : Order k.leq
  pub associative : (x y z : C) → k.add (k.add x y) z ≡ k.add x (k.add y z)
  pub zero_left : (x : C) → k.add k.zero x ≡ x
  pub zero_right : (x : C) → k.add x k.zero ≡ x
  -- adding the same on the left keeps the order
  pub keeps_order : (c x y : C) → k.leq x y ≡ true → k.leq (k.add c x) (k.add c y) ≡ true
  -- a cost is never above another added to it on its left
  pub never_falls : (c x : C) → k.leq x (k.add c x) ≡ true
