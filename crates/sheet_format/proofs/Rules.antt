-- Rule lines: a name, then the signs that it asks for.
use Rattle.std.proofs.Common.{◌≡◌, ℕ, zero, suc, ◌<◌, ◌≤◌, List, [], ◌∷◌, get_or, Some, None, Ok, Option, refl, ap₂, arith}
use Rattle.std.specs.List.{AllByRecursion}
use Rattle.refusal.specs.declared.Refusal.TheVariants.{UnknownMark}
use Rattle.entries.specs.declared.Rule.{Rule}
use Rattle.entries.specs.declared.Rule.TheVariants.{Met, Never, Before, After}
use Rattle.sheet_format.proofs.Cuts.{Tidy}
use Rattle.sheet_format.proofs.Fields.{Proper, fields_forth, fields_back, place_back, row_clean}
use Rattle.sheet_format.proofs.LineKinds.{Lawful}
use Rattle.sheet_format.proofs.Results.{ok_along, err_ok, on_ok_parts}
use Rattle.sheet_format.specs.Fields.{Field, line_fault, place_among, read_fields, RowFits, row_words}
use Rattle.sheet_format.specs.Lines.{sign, rule_names, rule_fields, rule_of, rule_named, rule_line}
use Rattle.sheet_format.specs.Spelling.{rule_words}
use Rattle.sheet_format.specs.WellFormed.{RuleFits}

abbrev one_sign : List Field
one_sign = sign ∷ []

abbrev two_signs : List Field
two_signs = sign ∷ sign ∷ []

proper_one : AllByRecursion Proper one_sign
proper_one = (omega arith, tt)

proper_two : AllByRecursion Proper two_signs
proper_two = (omega arith, (omega arith, tt))

fits_one : (p : ℕ) → p ≤ 15 → RowFits one_sign (p ∷ [])
fits_one p h = ((omega arith, h), tt)

fits_two : (p q : ℕ) → (p ≤ 15) × (q ≤ 15) → RowFits two_signs (p ∷ q ∷ [])
fits_two p q h = ((omega arith, h.0), ((omega arith, h.1), tt))

rule_forth : (seen : List Rule) (r : Rule) → RuleFits r → rule_line seen (rule_words r) ≡ Ok r
rule_forth seen (Met p) h = rw (fields_forth 2 one_sign (p ∷ []) proper_one (fits_one p h)) refl
rule_forth seen (Never p) h = rw (fields_forth 2 one_sign (p ∷ []) proper_one (fits_one p h)) refl
rule_forth seen (Before p q) h = rw (fields_forth 2 two_signs (p ∷ q ∷ []) proper_two (fits_two p q h)) refl
rule_forth seen (After p q) h = rw (fields_forth 2 two_signs (p ∷ q ∷ []) proper_two (fits_two p q h)) refl

rule_tidy : (r : Rule) → RuleFits r → Tidy (rule_words r)
rule_tidy (Met p) h = (omega arith, row_clean one_sign (p ∷ []) proper_one (fits_one p h))
rule_tidy (Never p) h = (omega arith, row_clean one_sign (p ∷ []) proper_one (fits_one p h))
rule_tidy (Before p q) h = (omega arith, row_clean two_signs (p ∷ q ∷ []) proper_two (fits_two p q h))
rule_tidy (After p q) h = (omega arith, row_clean two_signs (p ∷ q ∷ []) proper_two (fits_two p q h))

-- the rule of each name's row
row_rule : (k : ℕ) (w : List ℕ) (ws : List (List ℕ)) (xs : List ℕ) → k < 4 → get_or rule_names k [] ≡ w → RowFits (rule_fields k) xs → row_words (rule_fields k) xs ≡ ws → RuleFits (rule_of k xs) × (rule_words (rule_of k xs) ≡ w ∷ ws)
row_rule zero w ws [] l n h e = absurd h
row_rule zero w ws (p ∷ []) l n h e = (h.0.1, ap₂ (λ v vs. v ∷ vs) n e)
row_rule zero w ws (p ∷ q ∷ xs) l n h e = absurd h.1
row_rule (suc zero) w ws [] l n h e = absurd h
row_rule (suc zero) w ws (p ∷ []) l n h e = (h.0.1, ap₂ (λ v vs. v ∷ vs) n e)
row_rule (suc zero) w ws (p ∷ q ∷ xs) l n h e = absurd h.1
row_rule (suc (suc zero)) w ws [] l n h e = absurd h
row_rule (suc (suc zero)) w ws (p ∷ []) l n h e = absurd h.1
row_rule (suc (suc zero)) w ws (p ∷ q ∷ []) l n h e = ((h.0.1, h.1.0.1), ap₂ (λ v vs. v ∷ vs) n e)
row_rule (suc (suc zero)) w ws (p ∷ q ∷ x ∷ xs) l n h e = absurd h.1.1
row_rule (suc (suc (suc zero))) w ws [] l n h e = absurd h
row_rule (suc (suc (suc zero))) w ws (p ∷ []) l n h e = absurd h.1
row_rule (suc (suc (suc zero))) w ws (p ∷ q ∷ []) l n h e = ((h.0.1, h.1.0.1), ap₂ (λ v vs. v ∷ vs) n e)
row_rule (suc (suc (suc zero))) w ws (p ∷ q ∷ x ∷ xs) l n h e = absurd h.1.1
row_rule (suc (suc (suc (suc k)))) w ws xs l n h e = absurd (omega arith)

named_back : (w : List ℕ) (ws : List (List ℕ)) (o : Option ℕ) → place_among w rule_names ≡ o → (r : Rule) → rule_named o ws ≡ Ok r → RuleFits r × (rule_words r ≡ w ∷ ws)
named_back w ws None o r e = absurd (err_ok (line_fault UnknownMark 1) r e)
named_back w ws (Some k) o r e =
    let n = place_back w rule_names k o in
    let a = on_ok_parts (read_fields 2 (rule_fields k) ws) (λ xs. Ok (rule_of k xs)) r e in
    let b = fields_back 2 (rule_fields k) ws a.0 a.1 in
    ok_along (λ q. RuleFits q × (rule_words q ≡ w ∷ ws)) (rule_of k a.0) r a.2 (row_rule k w ws a.0 n.0 n.1 b.0 b.1)

rule_back : (seen : List Rule) (us : List (List ℕ)) (r : Rule) → rule_line seen us ≡ Ok r → RuleFits r × (rule_words r ≡ us)
rule_back seen [] r e = absurd (err_ok (line_fault UnknownMark 1) r e)
rule_back seen (w ∷ ws) r e = named_back w ws (place_among w rule_names) refl r e

pub rule_lawful : (seen : List Rule) → Lawful (rule_line seen) rule_words RuleFits
rule_lawful seen = record { forth = rule_forth seen; back = rule_back seen; tidy = rule_tidy }
