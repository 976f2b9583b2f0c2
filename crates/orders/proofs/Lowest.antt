-- Lemmas on the lowest place that passes a test.
use Rattle.std.proofs.Common.{◌≡◌, ℕ, zero, suc, ◌<◌, Bool, true, false, List, [], ◌∷◌, length, get_or, Some, None, Option, refl, le_of_suc-le-suc, not-suc-le-zero, arith}
use Rattle.std.proofs.lemmas.Bool.{both_ways, cond_both}
use Rattle.orders.specs.Lowest.{lowest, one_further}

-- what is told of the answer: it passes, and none before it does; none passes where there is no answer
pub record Found {X : Type 0} (d : X) (test : X → Bool) (xs : List X) (i : ℕ) : Type 0 where
  pub there : i < length xs
  pub passes : test (get_or xs i d) ≡ true
  pub first : (j : ℕ) → j < i → test (get_or xs j d) ≡ false

abbrev pub Told : {X : Type 0} → X → (X → Bool) → List X → Option ℕ → Type 0
Told d test xs None = (j : ℕ) → j < length xs → test (get_or xs j d) ≡ false
Told d test xs (Some i) = Found d test xs i

module _ {X : Type 0} (d : X) (test : X → Bool) where
  later_told : (x : X) (xs : List X) (o : Option ℕ) → test x ≡ false → Told d test xs o → Told d test (x ∷ xs) (one_further o)
  later_told x xs None e h = go
    where
      go : (j : ℕ) → j < suc (length xs) → test (get_or (x ∷ xs) j d) ≡ false
      go zero k = e
      go (suc j) k = h j (le_of_suc-le-suc k)
  later_told x xs (Some i) e h = record { there = omega arith; passes = h.passes; first = go }
    where
      go : (j : ℕ) → j < suc i → test (get_or (x ∷ xs) j d) ≡ false
      go zero k = e
      go (suc j) k = h.first j (le_of_suc-le-suc k)

  pub lowest_told : (xs : List X) → Told d test xs (lowest test xs)
  lowest_told [] = λ j h. absurd (not-suc-le-zero h)
  lowest_told (x ∷ xs) = here_or_later (lowest_told xs)
    where
      here_or_later : Told d test xs (lowest test xs) → Told d test (x ∷ xs) (lowest test (x ∷ xs))
      here_or_later later =
          cond_both (test x) (Some 0) (one_further (lowest test xs)) (Told d test (x ∷ xs))
          (λ e. record { there = omega arith; passes = e; first = λ j h. absurd (not-suc-le-zero h) })
          (λ e. later_told x xs (lowest test xs) e later)

  -- the answer, where some place passes
  pub lowest_found : (xs : List X) (j : ℕ) → j < length xs → test (get_or xs j d) ≡ true → (i : ℕ) × (lowest test xs ≡ Some i) × Found d test xs i
  lowest_found xs j h p = go (lowest test xs) refl (lowest_told xs)
    where
      go : (o : Option ℕ) → lowest test xs ≡ o → Told d test xs o → (i : ℕ) × (lowest test xs ≡ Some i) × Found d test xs i
      go None e told = absurd (both_ways _ (told j h) p)
      go (Some i) e told = (i, e, told)

  -- what an answer says
  pub lowest_is : (xs : List X) (i : ℕ) → lowest test xs ≡ Some i → Found d test xs i
  lowest_is xs i e = rw e at (lowest_told xs)
