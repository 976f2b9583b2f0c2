-- Digit i of a state is that of rule i.
use Rattle.std.proofs.Common.{◌≡◌, ℕ, zero, suc, ◌+◌, ◌*◌, ◌/◌, ◌%◌, ◌^◌, ◌<◌, List, [], ◌∷◌, length, get_or, sym, ap, ◌∙◌, le_of_suc-le-suc, not-suc-le-zero, mul_comm, pow-suc, arith}
use native.Mathlib.Nat.{div-div-eq-div-mul}
use Rattle.entries.specs.declared.Rule.{Rule}
use Rattle.entries.specs.declared.Rule.TheVariants.{Met}
use Rattle.rules.specs.Digits.{digit_after, next_state}
use Rattle.rules.specs.InRange.{digit_below}

-- one place up is one digit off
place_up : (x i : ℕ) → x / 3 ^ suc i ≡ x / 3 / 3 ^ i
place_up x i = ap (λ n. x / n) (pow-suc 3 i ∙ mul_comm (3 ^ i) 3) ∙ sym (div-div-eq-div-mul x 3 (3 ^ i))

pub placed : (rs : List Rule) (z l i : ℕ) → i < length rs → next_state rs z l / 3 ^ i % 3 ≡ digit_after (get_or rs i (Met 0)) (z / 3 ^ i % 3) l
placed [] z l i h = absurd (not-suc-le-zero h)
placed (r ∷ rs) z l zero h =
    let low : digit_after r (z % 3) l < 3 = digit_below r (z % 3) l (omega arith) in
    let here : (digit_after r (z % 3) l + 3 * next_state rs (z / 3) l) / 1 % 3 ≡ digit_after r (z % 3) l = omega arith in
    let same : z % 3 ≡ z / 1 % 3 = omega arith in
    here ∙ ap (λ x. digit_after r x l) same
placed (r ∷ rs) z l (suc i) h =
    let low : digit_after r (z % 3) l < 3 = digit_below r (z % 3) l (omega arith) in
    let rest : (digit_after r (z % 3) l + 3 * next_state rs (z / 3) l) / 3 ≡ next_state rs (z / 3) l = omega arith in
    ap (λ x. x % 3) (place_up (digit_after r (z % 3) l + 3 * next_state rs (z / 3) l) i ∙ ap (λ x. x / 3 ^ i) rest)
    ∙ placed rs (z / 3) l i (le_of_suc-le-suc h)
    ∙ ap (λ x. digit_after (get_or rs i (Met 0)) (x % 3) l) (sym (place_up z i))
