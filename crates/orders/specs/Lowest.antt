-- The lowest place of a list that passes a test.
use Rattle.std.specs.Prelude.{ℕ, suc, Bool, cond, List, [], ◌∷◌, Some, None, Option}

-- a place in the tail, as a place in the whole
abbrev pub one_further : Option ℕ → Option ℕ
one_further None = None
one_further (Some i) = Some (suc i)

abbrev pub lowest : {X : Type 0} → (X → Bool) → List X → Option ℕ
lowest test [] = None
lowest test (x ∷ xs) = cond (test x) (Some 0) (one_further (lowest test xs))
