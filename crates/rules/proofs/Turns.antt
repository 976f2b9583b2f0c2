-- The steps of the loop over the digits of a state.
use Rattle.std.proofs.Common.{◌≡◌, ℕ, suc, ◌+◌, ◌-◌, ◌*◌, ◌/◌, ◌%◌, ◌^◌, ◌<◌, ◌≤◌, false, eqb, List, length, get_or, drop, sym, ap, ◌∙◌, mul_assoc, pow-suc, mul-zero, mul-add, add-one, arith}
use native.Mathlib.Nat.{pow-le-pow_right}
use Rattle.std.proofs.lemmas.Nat.{div_below, pow_pos, mul-le}
use Rattle.std.proofs.lemmas.List.{drop_more, drop_all}
use Rattle.entries.specs.declared.Rule.{Rule}
use Rattle.task.specs.Signs.{has_sign}
use Rattle.rules.specs.Digits.{digit_after, next_state}

-- a label of 32 bits has no sign past 31
pub has_past : (label sign : ℕ) → label < 2 ^ 32 → 32 ≤ sign → has_sign label sign ≡ false
unfolding has_sign
has_past label sign h past =
    let most : 2 ^ 32 ≤ 2 ^ sign = pow-le-pow_right (omega arith) past in
    let none : label / 2 ^ sign < 1 = div_below label (2 ^ sign) 1 (pow_pos sign) (omega arith) in
    let e : label / 2 ^ sign ≡ 0 = omega arith in
    ap (λ x. eqb (x % 2) 1) e

pub power_few : (n : ℕ) → n ≤ 5 → 3 ^ n ≤ 243
power_few n h = pow-le-pow_right {n = 3} (omega arith) h

pub power_more : (i : ℕ) → 3 ^ (i + 1) ≡ 3 ^ i * 3
power_more i = ap (λ n. 3 ^ n) (add-one i) ∙ pow-suc 3 i

pub digit_fits : (place d : ℕ) → place ≤ 243 → d < 3 → place * d ≤ 486
digit_fits place d h k = mul-le place d 243 2 h (omega arith)

pub digit_room : (next place d : ℕ) → next < place → d < 3 → next + place * d < place * 3
digit_room next place d h k =
    let e : place * d ≤ place * 2 = mul-le place d place 2 (omega arith) (omega arith) in omega arith

-- what is left of the state, one digit on
pub rest_less : (n i rest : ℕ) → i < n → rest < 3 ^ (n - i) → rest / 3 < 3 ^ (n - (i + 1))
rest_less n i rest h k =
    let e : n - i ≡ suc (n - (i + 1)) = omega arith in
    let m : 3 ^ (n - i) ≡ 3 ^ (n - (i + 1)) * 3 = ap (λ x. 3 ^ x) e ∙ pow-suc 3 (n - (i + 1)) in
    omega arith

pub next_more : (rs : List Rule) (r : Rule) (i next place rest label whole d : ℕ) → i < length rs → d ≡ digit_after (get_or rs i r) (rest % 3) label
    → next + place * next_state (drop i rs) rest label ≡ whole → (next + place * d) + place * 3 * next_state (drop (i + 1) rs) (rest / 3) label ≡ whole
next_more rs r i next place rest label whole d h ed e =
    let x : ℕ = next_state (drop (i + 1) rs) (rest / 3) label in
    let f : next_state (drop i rs) rest label ≡ d + 3 * x =
    ap (λ xs. next_state xs rest label) (drop_more rs i r h)
    ∙ ap (λ y. y + 3 * x) (sym ed) in
    let g : place * next_state (drop i rs) rest label ≡ place * (d + 3 * x) = ap (λ y. place * y) f in
    omega (arith, mul-add place d (3 * x), mul_assoc place 3 x)

pub next_end : (rs : List Rule) (i next place rest label whole : ℕ) → length rs ≤ i → rest < 1
    → next + place * next_state (drop i rs) rest label ≡ whole → next ≡ whole
next_end rs i next place rest label whole h k e =
    let f : next_state (drop i rs) rest label ≡ 0 = ap (λ xs. next_state xs rest label) (drop_all i rs h) ∙ omega arith in
    omega (arith, ap (λ y. place * y) f, mul-zero place)
