-- A kind of cost.
use Rattle.std.specs.Prelude.{ℕ, Bool}

-- the costs are the values of C
pub record Kind (C : Type 0) : Type 0 where
  -- the cost of no move
  pub zero : C
  -- the cost of a move, from its bruise and its energy
  pub charge : ℕ → ℕ → C
  -- the cost of what comes first, on the left, and then of what comes later, on the right
  pub add : C → C → C
  -- the order, as a test: `leq x y` says that x is not above y
  pub leq : C → C → Bool
  -- a cost's two numbers
  pub numbers : C → ℕ × ℕ
  -- the cost that two numbers stand for; any two numbers are read as some cost
  pub read : ℕ × ℕ → C
