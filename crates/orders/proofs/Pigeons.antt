-- A list of distinct numbers below n that pass a test is no longer than the count of those that pass.
use Rattle.std.proofs.Common.{◌≡◌, ℕ, zero, suc, ◌<◌, ◌≤◌, Bool, true, false, not, ◌&&◌, eqb, List, [], ◌∷◌, length, sym, refl, ⊎_elim, not-suc-le-zero, arith}
use Rattle.std.proofs.lemmas.Bool.{cond_both, cases_eq, eq-eqb, ne_eqb, and_parts}
use Rattle.std.specs.List.{AllByRecursion}
use Rattle.orders.specs.Counting.{count, Distinct}

-- the same test, but for p
abbrev without : (ℕ → Bool) → ℕ → ℕ → Bool
without test p q = test q && not (eqb p q)

without_other : (test : ℕ → Bool) (p q : ℕ) → (p ≡ q → ⊥) → without test p q ≡ test q
without_other test p q h = rw (ne_eqb p q h) (and_true (test q))
  where
    and_true : (b : Bool) → (b && true) ≡ b
    and_true true = refl
    and_true false = refl

-- with a stronger test no more pass
pub count_weaker : (f g : ℕ → Bool) (n : ℕ) → ((q : ℕ) → f q ≡ true → g q ≡ true) → count f n ≤ count g n
count_weaker f g zero h = omega arith
count_weaker f g (suc n) h = step (count_weaker f g n h)
  where
    step : count f n ≤ count g n → count f (suc n) ≤ count g (suc n)
    step le =
        cond_both (f n) (suc (count f n)) (count f n) (λ (x : ℕ). x ≤ count g (suc n))
        (λ e. rw (h n e) (omega arith))
        (λ e. cond_both (g n) (suc (count g n)) (count g n) (λ (x : ℕ). count f n ≤ x) (λ k. omega arith) (λ k. omega arith))

pub count_below : (f : ℕ → Bool) (n : ℕ) → count f n ≤ n
count_below f zero = omega arith
count_below f (suc n) = step (count_below f n)
  where
    step : count f n ≤ n → count f (suc n) ≤ suc n
    step le = cond_both (f n) (suc (count f n)) (count f n) (λ (x : ℕ). x ≤ suc n) (λ e. omega arith) (λ e. omega arith)

-- p aside, one fewer passes
count_without : (test : ℕ → Bool) (p n : ℕ) → p < n → test p ≡ true → suc (count (without test p) n) ≤ count test n
count_without test p zero h e = absurd (not-suc-le-zero h)
count_without test p (suc n) h e = step (count_without test p n)
  where
    step : (p < n → test p ≡ true → suc (count (without test p) n) ≤ count test n) → suc (count (without test p) (suc n)) ≤ count test (suc n)
    step before =
        ⊎_elim
        (λ (same : p ≡ n).
        let here : test n ≡ true = rw (sym same) e in
        let gone : without test p n ≡ false = rw (here, eq-eqb p n same) in
        let less : count (without test p) n ≤ count test n = count_weaker (without test p) test n (λ q k. (and_parts (test q) (not (eqb p q)) k).0) in
        rw (gone, here) (omega arith))
        (λ (other : p ≡ n → ⊥).
        let less : suc (count (without test p) n) ≤ count test n = before (omega arith) e in
        let same : without test p n ≡ test n = without_other test p n other in
        rw same (cond_both (test n) (suc (count (without test p) n)) (count (without test p) n) (λ (x : ℕ). suc x ≤ count test (suc n))
        (λ k. rw k (omega arith)) (λ k. rw k (omega arith))))
        (cases_eq p n)

pub pigeons : (test : ℕ → Bool) (n : ℕ) (xs : List ℕ) → Distinct xs → AllByRecursion (λ q. (q < n) × (test q ≡ true)) xs → length xs ≤ count test n
pigeons test n [] d all = omega arith
pigeons test n (x ∷ xs) d all = step (pigeons (without test x) n xs d.1 (both xs d.0 all.1))
  where
    both : (ys : List ℕ) → AllByRecursion (λ y. x ≡ y → ⊥) ys → AllByRecursion (λ q. (q < n) × (test q ≡ true)) ys → AllByRecursion (λ q. (q < n) × (without test x q ≡ true)) ys
    both [] a b = tt
    both (y ∷ ys) a b = ((b.0.0, rw (without_other test x y a.0) b.0.1), both ys a.1 b.1)

    step : length xs ≤ count (without test x) n → suc (length xs) ≤ count test n
    step le = omega (arith, count_without test x n all.0.0 all.0.1)
