-- A number word is the decimal word of its value.
use Rattle.std.proofs.Common.{◌≡◌, ℕ, ◌<◌, true, not, ◌||◌, eqb, ltb, leb, List, length, get_or, decimal, ap, ⊎_elim, arith}
use Rattle.std.proofs.lemmas.Fmt.{decimal-digits_value, digits_value-decimal, digits_decimal, decimal_nonempty, length-decimal-le, first_decimal, decimal_digit}
use Rattle.std.proofs.ByRecursion.{All-from_get_or}
use Rattle.std.proofs.lemmas.Str.Parse.{IsNumeralModel, numerals_by_value, tells_all_ascii_digits, digits_value_short, digit_at}
use Rattle.std.proofs.lemmas.Bool.{and_from, and_parts, or_cases, or_left, or_right, not-true, not_from_false, ltb-true, lt-ltb, leb-true, le-leb, eqb-true, eq-eqb, eqb-false, ne_eqb, cases_eq}
use Rattle.std.specs.Str.Parse.{digits_value}
use Rattle.std.specs.Str.{all_ascii_digits}
use Rattle.sheet_format.proofs.Cuts.{Clean}
use Rattle.sheet_format.specs.Numbers.{is_number}

numerals : IsNumeralModel (λ ds. all_ascii_digits ds ≡ true) (digits_value 10)
numerals = numerals_by_value (λ ds. all_ascii_digits ds ≡ true) tells_all_ascii_digits

pub decimal_reads_back : (n : ℕ) → n < 10000000000 → digits_value 10 (decimal n) ≡ n
decimal_reads_back n h = digits_value-decimal numerals n (omega arith)

no_leading_zero : (n : ℕ) → n < 10000000000 → (not (eqb (get_or (decimal n) 0 0) 48) || eqb (length (decimal n)) 1) ≡ true
no_leading_zero n h = ⊎_elim zero some (cases_eq n 0)
  where
    zero : n ≡ 0 → (not (eqb (get_or (decimal n) 0 0) 48) || eqb (length (decimal n)) 1) ≡ true
    zero e = or_right _ _ (eq-eqb (length (decimal n)) 1 (ap length (decimal_digit n (omega arith))))

    some : (n ≡ 0 → ⊥) → (not (eqb (get_or (decimal n) 0 0) 48) || eqb (length (decimal n)) 1) ≡ true
    some e = or_left _ _ (not_from_false _ (ne_eqb (get_or (decimal n) 0 0) 48 (λ q. omega (arith, first_decimal n (omega arith) (omega arith)))))

pub decimal_is_number : (n : ℕ) → n < 10000000000 → is_number (decimal n) ≡ true
decimal_is_number n h = and_from _ _ (digits_decimal numerals n (omega arith)) (and_from _ _ (lt-ltb 0 (length (decimal n)) (decimal_nonempty n (omega arith))) (and_from _ _ (le-leb (length (decimal n)) 10 (length-decimal-le 10 n (omega arith) (omega arith) (omega arith))) (no_leading_zero n h)))

pub number_is_decimal : (w : List ℕ) → is_number w ≡ true → decimal (digits_value 10 w) ≡ w
number_is_decimal w h =
    let a = and_parts (all_ascii_digits w) _ h in
    let b = and_parts (ltb 0 (length w)) _ a.1 in
    let c = and_parts (leb (length w) 10) _ b.1 in
    decimal-digits_value numerals w a.0 (ltb-true 0 (length w) b.0) (alone c.1) (omega (arith, digits_value_short numerals w 10 a.0 (leb-true (length w) 10 c.0)))
  where
    alone : (not (eqb (get_or w 0 0) 48) || eqb (length w) 1) ≡ true → get_or w 0 0 ≡ 48 → length w ≡ 1
    alone o e = ⊎_elim (λ (q : not (eqb (get_or w 0 0) 48) ≡ true). absurd (eqb-false (get_or w 0 0) 48 (not-true _ q) e)) (λ (q : eqb (length w) 1 ≡ true). eqb-true (length w) 1 q) (or_cases _ _ o)

pub clean_decimal : (n : ℕ) → n < 10000000000 → Clean (decimal n)
clean_decimal n h = All-from_get_or (λ b. 32 < b) (decimal n) 0 (λ i l. omega (arith, digit_at (decimal n) i (IsNumeralModel.to numerals (decimal n) (digits_decimal numerals n (omega arith))) l))
