-- The value of a position: a cost, or none, which is above every cost.
use Rattle.std.specs.Prelude.{Bool, true, false, Some, None, Option}
use Rattle.cost.specs.Kind.{Kind}

-- the order of values
unfoldable pub value_leq : {C : Type 0} → Kind C → Option C → Option C → Bool
value_leq k v None = true
value_leq k None (Some y) = false
value_leq k (Some x) (Some y) = k.leq x y

-- a cost added to a value, on its left
unfoldable pub value_add : {C : Type 0} → Kind C → C → Option C → Option C
value_add k c None = None
value_add k c (Some x) = Some (k.add c x)

-- whether a value is a cost
abbrev pub is_cost : {C : Type 0} → Option C → Bool
is_cost None = false
is_cost (Some x) = true
