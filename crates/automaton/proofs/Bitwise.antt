-- What the two tests of an arrow say of signs.
use Rattle.std.proofs.Common.{◌≡◌, ℕ, ◌+◌, ◌/◌, ◌%◌, ◌^◌, min, true, false, eqb, sym, ap, ◌∙◌, ⊎_elim, arith}
use native.Mathlib.Nat.{zero-div}
use lib.Arith.{bin_ind}
use lib.Bits.{bit_and, and_step, and_zero_r}
use Rattle.std.proofs.lemmas.Nat.{and_shr, shr-shr}
use Rattle.std.proofs.lemmas.Bool.{eqb-true, eq-eqb, cases_eq, both_ways}
use Rattle.task.specs.Signs.{has_sign}

-- the bit of a sign in the meeting of two labels
bit_of_and : (a b s : ℕ) → bit_and a b / 2 ^ s % 2 ≡ min (a / 2 ^ s % 2) (b / 2 ^ s % 2)
bit_of_and a b s = ap (λ x. x % 2) (and_shr a b s) ∙ omega (arith, and_step (a / 2 ^ s) (b / 2 ^ s))

pub has_bit : (a s : ℕ) → has_sign a s ≡ true → a / 2 ^ s % 2 ≡ 1
unfolding has_sign
has_bit a s e = eqb-true (a / 2 ^ s % 2) 1 e

bit_has : (a s : ℕ) → a / 2 ^ s % 2 ≡ 1 → has_sign a s ≡ true
unfolding has_sign
bit_has a s e = eq-eqb (a / 2 ^ s % 2) 1 e

lacks_bit : (a s : ℕ) → has_sign a s ≡ false → a / 2 ^ s % 2 ≡ 0
lacks_bit a s e = ⊎_elim (λ one. absurd (both_ways (has_sign a s) e (bit_has a s one))) (λ other. omega arith) (cases_eq (a / 2 ^ s % 2) 1)

bit_lacks : (a s : ℕ) → a / 2 ^ s % 2 ≡ 0 → has_sign a s ≡ false
unfolding has_sign
bit_lacks a s e = ap (λ x. eqb x 1) e

-- signs of half a label are those of the label, one up
half_has : (a s : ℕ) → has_sign (a / 2) s ≡ has_sign a (1 + s)
unfolding has_sign
half_has a s = ap (λ x. eqb (x % 2) 1) (shr-shr a 1 s)

pub covers : (l n : ℕ) → bit_and l n ≡ n → (s : ℕ) → has_sign n s ≡ true → has_sign l s ≡ true
covers l n e s h = bit_has l s (omega (arith, bit_of_and l n s, ap (λ x. x / 2 ^ s % 2) e, has_bit n s h))

abbrev CoversAll : ℕ → Type 0
CoversAll n = (l : ℕ) → ((s : ℕ) → has_sign n s ≡ true → has_sign l s ≡ true) → bit_and l n ≡ n

low_covers : (l n : ℕ) → ((s : ℕ) → has_sign n s ≡ true → has_sign l s ≡ true) → min (l % 2) (n % 2) ≡ n % 2
low_covers l n h =
    ⊎_elim (λ (one : n / 2 ^ 0 % 2 ≡ 1). omega (arith, one, has_bit l 0 (h 0 (bit_has n 0 one))))
    (λ (other : n / 2 ^ 0 % 2 ≡ 1 → ⊥). omega (arith, other)) (cases_eq (n / 2 ^ 0 % 2) 1)

pub covers_back : (n : ℕ) → CoversAll n
covers_back =
    bin_ind CoversAll (λ l h. and_zero_r l)
    (λ n ih l h. let half : bit_and (l / 2) (n / 2) ≡ n / 2 = ih (l / 2) (λ s e. half_has l s ∙ h (1 + s) (sym (half_has n s) ∙ e)) in
    omega (arith, half, and_step l n, low_covers l n h))

pub apart : (l b : ℕ) → bit_and l b ≡ 0 → (s : ℕ) → has_sign b s ≡ true → has_sign l s ≡ false
apart l b e s h = bit_lacks l s (omega (arith, bit_of_and l b s, ap (λ x. x / 2 ^ s % 2) e, zero-div (2 ^ s), has_bit b s h))

abbrev ApartAll : ℕ → Type 0
ApartAll b = (l : ℕ) → ((s : ℕ) → has_sign b s ≡ true → has_sign l s ≡ false) → bit_and l b ≡ 0

low_apart : (l b : ℕ) → ((s : ℕ) → has_sign b s ≡ true → has_sign l s ≡ false) → min (l % 2) (b % 2) ≡ 0
low_apart l b h =
    ⊎_elim (λ (one : b / 2 ^ 0 % 2 ≡ 1). omega (arith, one, lacks_bit l 0 (h 0 (bit_has b 0 one))))
    (λ (other : b / 2 ^ 0 % 2 ≡ 1 → ⊥). omega (arith, other)) (cases_eq (b / 2 ^ 0 % 2) 1)

pub apart_back : (b : ℕ) → ApartAll b
apart_back =
    bin_ind ApartAll (λ l h. and_zero_r l)
    (λ b ih l h. let half : bit_and (l / 2) (b / 2) ≡ 0 = ih (l / 2) (λ s e. half_has l s ∙ h (1 + s) (sym (half_has b s) ∙ e)) in
    omega (arith, half, and_step l b, low_apart l b h))
