-- The least and the greatest of a list, by the test of an order.
use Rattle.std.specs.Prelude.{Bool, cond, List, [], ◌∷◌}

-- the least; `top` for the empty list
abbrev pub least : {V : Type 0} → (V → V → Bool) → V → List V → V
least leq top [] = top
least leq top (x ∷ xs) = cond (leq x (least leq top xs)) x (least leq top xs)

-- the greatest; `top` for the empty list
abbrev pub greatest : {V : Type 0} → (V → V → Bool) → V → List V → V
greatest leq top [] = top
greatest leq top (x ∷ []) = x
greatest leq top (x ∷ y ∷ ys) = cond (leq x (greatest leq top (y ∷ ys))) (greatest leq top (y ∷ ys)) x
