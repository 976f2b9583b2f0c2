-- A numeral, digit by digit, its value stopping at the top.
use Rattle.std.proofs.Common.{◌≡◌, ℕ, ◌+◌, ◌-◌, ◌*◌, ◌<◌, ◌≤◌, min, true, false, ◌&&◌, List, [], ◌∷◌, length, get_or, take, Some, None, Option, MatchOption, sym, refl, ap, ◌∙◌, arith}
use Rattle.std.specs.Char.{is_ascii_digit, digit_value}
use Rattle.std.specs.List.{list_all}
use Rattle.std.specs.Str.Parse.{digits_value}
use Rattle.std.specs.Str.{all_ascii_digits}
use Rattle.std.proofs.lemmas.Bool.{both_ways, and_from, cond-true, cond-false, false_from_ne_true}
use Rattle.std.proofs.lemmas.Grind.{common_steps}
use Rattle.std.proofs.lemmas.Int.Digits.{digits_value_more}
use Rattle.std.proofs.lemmas.List.Folds.{list_all_more, list_all_at}
use Rattle.std.proofs.lemmas.Str.Parse.{numerals_by_value, tells_all_ascii_digits, digits_value_short, digit_from_value}
use Rattle.std.proofs.lemmas.Str.{digit_value_digit}
use Rattle.sheet_format.specs.Numbers.{is_number}
use Rattle.words.specs.Kinds.{number_word}
use Rattle.words.specs.Numerals.{Numeral}

-- the first i bytes are digits and write n, or more than the top
pub record NumeralSoFar (w : List ℕ) (i n : ℕ) : Type 0 where
  pub digits : all_ascii_digits (take i w) ≡ true
  pub value_is : n ≡ min (digits_value 10 (take i w)) 18446744073709551615

all_digits_is : (w : List ℕ) → all_ascii_digits w ≡ list_all is_ascii_digit w
all_digits_is [] = refl
all_digits_is (b ∷ w) = ap (λ t. is_ascii_digit b && t) (all_digits_is w)

capped_step : (top v d n m : ℕ) → n ≡ min v top → m ≡ min (min (n * 10) top + d) top → m ≡ min (v * 10 + d) top
capped_step top v d n m en em = omega arith

pub digit_more : (w : List ℕ) (i n m : ℕ) → i < length w → is_ascii_digit (get_or w i 0) ≡ true → digit_value (get_or w i 0) < 10 → NumeralSoFar w i n → m ≡ min (min (n * 10) 18446744073709551615 + (get_or w i 0 - 48)) 18446744073709551615 → NumeralSoFar w (i + 1) m
digit_more w i n m lt d ten h em =
    let v : digit_value (get_or w i 0) ≡ get_or w i 0 - 48 = omega (arith, digit_value_digit (get_or w i 0) (digit_from_value (get_or w i 0) ten)) in
    record {
      digits = all_digits_is (take (i + 1) w) ∙ list_all_more is_ascii_digit w i 0 lt ∙ and_from _ _ (sym (all_digits_is (take i w)) ∙ h.digits) d;
      value_is = capped_step 18446744073709551615 (digits_value 10 (take i w)) (get_or w i 0 - 48) n m h.value_is em ∙ ap (λ x. min x 18446744073709551615) (sym (digits_value_more 10 w i lt ∙ ap (λ b. digits_value 10 (take i w) * 10 + b) v));
    }

pub other_byte : (w : List ℕ) (i : ℕ) → i < length w → is_ascii_digit (get_or w i 0) ≡ false → Numeral w → ⊥
other_byte w i lt d h = both_ways _ (all_digits_is w ∙ list_all_at is_ascii_digit w i 0 lt d) h.digits

-- a numeral of at most ten digits is a number word, and its value is below 10 ^ 10
number_of : (w : List ℕ) → length w ≤ 10 → Numeral w → is_number w ≡ true
number_of w few h = let d = h.digits in let s = h.some in let p = h.plain in grind (arith, common_steps)

numeral_of : (w : List ℕ) → is_number w ≡ true → Numeral w
numeral_of w e = record { digits = grind (arith, common_steps); some = grind (arith, common_steps); plain = λ z. grind (arith, common_steps) }

few_digits : (w : List ℕ) → Numeral w → length w ≤ 10 → digits_value 10 w < 10000000000
few_digits w h few = digits_value_short (numerals_by_value _ tells_all_ascii_digits) w 10 h.digits few

pub number_is : (w : List ℕ) (r : Option ℕ) → length w ≤ 10 → MatchOption r (Numeral w → ⊥) (λ k. Numeral w × (k ≡ min (digits_value 10 w) 18446744073709551615)) → r ≡ number_word w
number_is w None few h = sym (cond-false (is_number w) (Some (digits_value 10 w)) None (false_from_ne_true (is_number w) (λ e. h (numeral_of w e))))
number_is w (Some k) few h = ap Some (omega (arith, few_digits w h.0 few)) ∙ sym (cond-true (is_number w) (Some (digits_value 10 w)) None (number_of w few h.0))
