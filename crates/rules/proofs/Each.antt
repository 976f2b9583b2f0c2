-- A rule's digit accepts exactly the lists of labels of which the rule holds.
use Rattle.std.proofs.Common.{◌≡◌, ℕ, zero, suc, ◌≤◌, Bool, true, false, cond, eqb, ltb, List, [], ◌∷◌, Decides, refl, ap, suc-le-suc, zero-le, le_of_suc-le-suc, not-suc-le-zero, arith}
use Rattle.std.specs.List.{AllByRecursion}
use Rattle.std.proofs.lemmas.Bool.{both_ways}
use Rattle.std.proofs.lemmas.Bool.Decides.{Decides-at, Decides-like, Decides-and}
use Rattle.entries.specs.declared.Rule.{Rule}
use Rattle.entries.specs.declared.Rule.TheVariants.{Met, Never, Before, After}
use Rattle.task.specs.Dfa.{accepts}
use Rattle.task.specs.Signs.{has_sign, Marked}
use Rattle.rules.specs.Digits.{digit_accepts, rules_dfa}
use Rattle.rules.specs.Holds.{Holds}
use Rattle.rules.proofs.Split.{digit_read, accepts_split}

-- a test that came out false decides what does not hold
fails : {P : Type 0} → (b : Bool) → b ≡ false → (P → ⊥) → Decides b P
fails b e no-p = (λ e'. absurd (both_ways b e e'), λ p. absurd (no-p p))

passes : {P : Type 0} → (b : Bool) → b ≡ true → P → Decides b P
passes b e p = (λ e'. p, λ p'. e)

here : (l : ℕ) (ls : List ℕ) (s : ℕ) → has_sign l s ≡ true → Marked (l ∷ ls) 0 s
here l ls s e = record { there = omega arith; marked = e }

later : (l : ℕ) (ls : List ℕ) (i s : ℕ) → Marked ls i s → Marked (l ∷ ls) (suc i) s
later l ls i s m = record { there = suc-le-suc m.there; marked = m.marked }

sooner : (l : ℕ) (ls : List ℕ) (i s : ℕ) → Marked (l ∷ ls) (suc i) s → Marked ls i s
sooner l ls i s m = record { there = le_of_suc-le-suc m.there; marked = m.marked }

nowhere : (i s : ℕ) → Marked [] i s → ⊥
nowhere i s m = not-suc-le-zero m.there

not_here : (l : ℕ) (ls : List ℕ) (s : ℕ) → has_sign l s ≡ false → Marked (l ∷ ls) 0 s → ⊥
not_here l ls s e m = both_ways (has_sign l s) e m.marked

-- some label has the sign
abbrev Somewhere : List ℕ → ℕ → Type 0
Somewhere ls s = (i : ℕ) × Marked ls i s

rest_has : (l : ℕ) (ls : List ℕ) (s : ℕ) → has_sign l s ≡ false → (i : ℕ) → Marked (l ∷ ls) i s → Somewhere ls s
rest_has l ls s e zero m = absurd (not_here l ls s e m)
rest_has l ls s e (suc i) m = (i, sooner l ls i s m)

met_stays : (p : ℕ) (ls : List ℕ) (d : ℕ) → digit_read (Met p) (suc d) ls ≡ suc d
met_stays p [] d = refl
met_stays p (l ∷ ls) d = met_stays p ls d

met_step : (p l : ℕ) (ls : List ℕ) (b : Bool) → has_sign l p ≡ b → Decides (eqb (digit_read (Met p) 0 ls) 1) (Holds (Met p) ls)
    → Decides (eqb (digit_read (Met p) (cond b 1 0) ls) 1) (Holds (Met p) (l ∷ ls))
met_step p l ls true e ih = passes (eqb (digit_read (Met p) 1 ls) 1) (ap (λ d. eqb d 1) (met_stays p ls 0)) (0, here l ls p e)
met_step p l ls false e ih =
    Decides-like (eqb (digit_read (Met p) 0 ls) 1) (λ h. (suc h.0, later l ls h.0 p h.1)) (λ h. rest_has l ls p e h.0 h.1) ih

met_is : (p : ℕ) (ls : List ℕ) → Decides (eqb (digit_read (Met p) 0 ls) 1) (Holds (Met p) ls)
met_is p [] = fails false refl (λ h. nowhere h.0 p h.1)
met_is p (l ∷ ls) = met_step p l ls (has_sign l p) refl (met_is p ls)

never_stays : (p : ℕ) (ls : List ℕ) (d : ℕ) → digit_read (Never p) (suc d) ls ≡ suc d
never_stays p [] d = refl
never_stays p (l ∷ ls) d = never_stays p ls d

never_more : (p l : ℕ) (ls : List ℕ) → has_sign l p ≡ false → Holds (Never p) ls → Holds (Never p) (l ∷ ls)
never_more p l ls e h zero m = not_here l ls p e m
never_more p l ls e h (suc i) m = h i (sooner l ls i p m)

never_step : (p l : ℕ) (ls : List ℕ) (b : Bool) → has_sign l p ≡ b → Decides (eqb (digit_read (Never p) 0 ls) 0) (Holds (Never p) ls)
    → Decides (eqb (digit_read (Never p) (cond b 1 0) ls) 0) (Holds (Never p) (l ∷ ls))
never_step p l ls true e ih = fails (eqb (digit_read (Never p) 1 ls) 0) (ap (λ d. eqb d 0) (never_stays p ls 0)) (λ h. h 0 (here l ls p e))
never_step p l ls false e ih =
    Decides-like (eqb (digit_read (Never p) 0 ls) 0) (never_more p l ls e) (λ h i m. h (suc i) (later l ls i p m)) ih

never_is : (p : ℕ) (ls : List ℕ) → Decides (eqb (digit_read (Never p) 0 ls) 0) (Holds (Never p) ls)
never_is p [] = passes true refl (λ i m. nowhere i p m)
never_is p (l ∷ ls) = never_step p l ls (has_sign l p) refl (never_is p ls)

before_stays : (p q : ℕ) (ls : List ℕ) (d : ℕ) → digit_read (Before p q) (suc d) ls ≡ suc d
before_stays p q [] d = refl
before_stays p q (l ∷ ls) d = before_stays p q ls d

-- place 0 has q, and p is not at or before it
before_broken : (p l : ℕ) (ls : List ℕ) → has_sign l p ≡ false → (j : ℕ) → j ≤ 0 → Marked (l ∷ ls) j p → ⊥
before_broken p l ls e zero le m = not_here l ls p e m
before_broken p l ls e (suc j) le m = not-suc-le-zero le

before_more : (p q l : ℕ) (ls : List ℕ) → has_sign l q ≡ false → Holds (Before p q) ls → Holds (Before p q) (l ∷ ls)
before_more p q l ls e h zero m = absurd (not_here l ls q e m)
before_more p q l ls e h (suc i) m =
    let w = h i (sooner l ls i q m) in (suc w.0, suc-le-suc w.1, later l ls w.0 p w.2)

before_less : (p q l : ℕ) (ls : List ℕ) → has_sign l p ≡ false → Holds (Before p q) (l ∷ ls) → Holds (Before p q) ls
before_less p q l ls e h i m = let w = h (suc i) (later l ls i q m) in down w.0 w.1 w.2
  where
    down : (j : ℕ) → j ≤ suc i → Marked (l ∷ ls) j p → (j : ℕ) × (j ≤ i) × Marked ls j p
    down zero le mj = absurd (not_here l ls p e mj)
    down (suc j) le mj = (j, le_of_suc-le-suc le, sooner l ls j p mj)

before_step : (p q l : ℕ) (ls : List ℕ) (b c : Bool) → has_sign l p ≡ b → has_sign l q ≡ c
    → Decides (ltb (digit_read (Before p q) 0 ls) 2) (Holds (Before p q) ls)
    → Decides (ltb (digit_read (Before p q) (cond b 1 (cond c 2 0)) ls) 2) (Holds (Before p q) (l ∷ ls))
before_step p q l ls true c e f ih =
    passes (ltb (digit_read (Before p q) 1 ls) 2) (ap (λ d. ltb d 2) (before_stays p q ls 0)) (λ i m. (0, zero-le, here l ls p e))
before_step p q l ls false true e f ih =
    fails (ltb (digit_read (Before p q) 2 ls) 2) (ap (λ d. ltb d 2) (before_stays p q ls 1))
    (λ h. let w = h 0 (here l ls q f) in before_broken p l ls e w.0 w.1 w.2)
before_step p q l ls false false e f ih =
    Decides-like (ltb (digit_read (Before p q) 0 ls) 2) (before_more p q l ls f) (before_less p q l ls e) ih

before_is : (p q : ℕ) (ls : List ℕ) → Decides (ltb (digit_read (Before p q) 0 ls) 2) (Holds (Before p q) ls)
before_is p q [] = passes true refl (λ i m. absurd (nowhere i q m))
before_is p q (l ∷ ls) = before_step p q l ls (has_sign l p) (has_sign l q) refl refl (before_is p q ls)

after_less : (p q l : ℕ) (ls : List ℕ) → Holds (After p q) (l ∷ ls) → Holds (After p q) ls
after_less p q l ls h i m = let w = h (suc i) (later l ls i p m) in down w.0 w.1 w.2
  where
    down : (j : ℕ) → suc i ≤ j → Marked (l ∷ ls) j q → (j : ℕ) × (i ≤ j) × Marked ls j q
    down zero le mj = absurd (not-suc-le-zero le)
    down (suc j) le mj = (j, le_of_suc-le-suc le, sooner l ls j q mj)

-- the first label has q
after_met : (p q l : ℕ) (ls : List ℕ) → has_sign l q ≡ true → Holds (After p q) ls → Holds (After p q) (l ∷ ls)
after_met p q l ls f h zero m = (0, zero-le, here l ls q f)
after_met p q l ls f h (suc i) m = let w = h i (sooner l ls i p m) in (suc w.0, suc-le-suc w.1, later l ls w.0 q w.2)

-- the first label has not p
after_free : (p q l : ℕ) (ls : List ℕ) → has_sign l p ≡ false → Holds (After p q) ls → Holds (After p q) (l ∷ ls)
after_free p q l ls e h zero m = absurd (not_here l ls p e m)
after_free p q l ls e h (suc i) m = let w = h i (sooner l ls i p m) in (suc w.0, suc-le-suc w.1, later l ls w.0 q w.2)

-- a later label has q
after_owed : (p q l : ℕ) (ls : List ℕ) → Holds (After p q) ls → Somewhere ls q → Holds (After p q) (l ∷ ls)
after_owed p q l ls h s zero m = (suc s.0, zero-le, later l ls s.0 q s.1)
after_owed p q l ls h s (suc i) m = let w = h i (sooner l ls i p m) in (suc w.0, suc-le-suc w.1, later l ls w.0 q w.2)

-- from digit 0 the rule is decided; from digit 1 the rule, with q still to come
abbrev AfterIs : ℕ → ℕ → List ℕ → Type 0
AfterIs p q ls =
    Decides (eqb (digit_read (After p q) 0 ls) 0) (Holds (After p q) ls)
    × Decides (eqb (digit_read (After p q) 1 ls) 0) (Holds (After p q) ls × Somewhere ls q)

after_first : (p q l : ℕ) (ls : List ℕ) (b c : Bool) → has_sign l p ≡ b → has_sign l q ≡ c → AfterIs p q ls
    → Decides (eqb (digit_read (After p q) (cond c 0 (cond b 1 0)) ls) 0) (Holds (After p q) (l ∷ ls))
after_first p q l ls b true e f ih =
    Decides-like (eqb (digit_read (After p q) 0 ls) 0) (after_met p q l ls f) (after_less p q l ls) ih.0
after_first p q l ls true false e f ih =
    Decides-like (eqb (digit_read (After p q) 1 ls) 0) (λ h. after_owed p q l ls h.0 h.1)
    (λ h. let w = h 0 (here l ls p e) in (after_less p q l ls h, rest_has l ls q f w.0 w.2)) ih.1
after_first p q l ls false false e f ih =
    Decides-like (eqb (digit_read (After p q) 0 ls) 0) (after_free p q l ls e) (after_less p q l ls) ih.0

after_second : (p q l : ℕ) (ls : List ℕ) (c : Bool) → has_sign l q ≡ c → AfterIs p q ls
    → Decides (eqb (digit_read (After p q) (cond c 0 1) ls) 0) (Holds (After p q) (l ∷ ls) × Somewhere (l ∷ ls) q)
after_second p q l ls true f ih =
    Decides-like (eqb (digit_read (After p q) 0 ls) 0) (λ h. (after_met p q l ls f h, (0, here l ls q f))) (λ h. after_less p q l ls h.0) ih.0
after_second p q l ls false f ih =
    Decides-like (eqb (digit_read (After p q) 1 ls) 0)
    (λ h. (after_owed p q l ls h.0 h.1, (suc h.1.0, later l ls h.1.0 q h.1.1)))
    (λ h. (after_less p q l ls h.0, rest_has l ls q f h.1.0 h.1.1)) ih.1

after_is : (p q : ℕ) (ls : List ℕ) → AfterIs p q ls
after_is p q [] = (passes true refl (λ i m. absurd (nowhere i p m)), fails false refl (λ h. nowhere h.1.0 q h.1.1))
after_is p q (l ∷ ls) =
    let ih : AfterIs p q ls = after_is p q ls in
    (after_first p q l ls (has_sign l p) (has_sign l q) refl refl ih, after_second p q l ls (has_sign l q) refl ih)

pub rule_is : (r : Rule) (ls : List ℕ) → Decides (digit_accepts r (digit_read r 0 ls)) (Holds r ls)
rule_is (Met p) ls = met_is p ls
rule_is (Never p) ls = never_is p ls
rule_is (Before p q) ls = before_is p q ls
rule_is (After p q) ls = (after_is p q ls).0

-- the task accepts a list of labels exactly when every rule holds of it, of however many rules
pub rules_are : (rs : List Rule) (ls : List ℕ) → Decides (accepts (rules_dfa rs) ls) (AllByRecursion (λ r. Holds r ls) rs)
rules_are [] ls = passes true refl tt
rules_are (r ∷ rs) ls =
    Decides-at (accepts (rules_dfa (r ∷ rs)) ls) _ (accepts_split r rs ls)
    (Decides-and (digit_accepts r (digit_read r 0 ls)) (accepts (rules_dfa rs) ls) (rule_is r ls) (rules_are rs ls))
