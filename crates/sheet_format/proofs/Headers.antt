-- Headers: a section's word and its count.
use Rattle.std.proofs.Common.{◌≡◌, ℕ, ◌<◌, ◌≤◌, cond, leb, List, [], ◌∷◌, get_or, Ok, Err, Result, refl, ap, arith}
use Rattle.std.proofs.lemmas.Bool.{le-leb, leb-true}
use Rattle.refusal.specs.declared.Refusal.TheVariants.{WrongSection, ShortTable}
use Rattle.sheet_format.proofs.Cuts.{Clean}
use Rattle.sheet_format.proofs.LineKinds.{Lawful, lawful_as, RowKind, Checks, kind_lawful}
use Rattle.sheet_format.proofs.Results.{ok_along, cond_ok}
use Rattle.sheet_format.specs.declared.LineFault.{LineFault}
use Rattle.sheet_format.specs.Fields.{Field, one_of, between, line_fault, RowFits}
use Rattle.sheet_format.specs.Reading.{header}
use Rattle.sheet_format.specs.Spelling.{header_words}
use Rattle.sheet_format.specs.WellFormed.{CountFits}

abbrev header_fields : List ℕ → ℕ → ℕ → List Field
header_fields name low high = one_of WrongSection (name ∷ []) ∷ between low high ∷ []

abbrev header_row : ℕ → List ℕ
header_row n = 0 ∷ n ∷ []

abbrev with_room : ℕ → ℕ → Result ℕ LineFault
with_room room n = cond (leb n room) (Ok n) (Err (line_fault ShortTable 2))

row_again : (name : List ℕ) (low high : ℕ) (r : List ℕ) → RowFits (header_fields name low high) r → header_row (get_or r 1 0) ≡ r
row_again name low high [] h = absurd h
row_again name low high (x ∷ []) h = absurd h.1
row_again name low high (x ∷ y ∷ []) h = ap (λ k. k ∷ y ∷ []) (omega arith)
row_again name low high (x ∷ y ∷ z ∷ r) h = absurd h.1.1

header_kind : (name : List ℕ) → Clean name → (low high : ℕ) → high < 10000000000 → RowKind (header_fields name low high) (λ r. get_or r 1 0) header_row (header_words name)
header_kind name c low high h = record {
  proper = (((tt, tt), (c, tt)), (h, tt));
  some = omega arith;
  value_back = λ n. refl;
  row_back = row_again name low high;
  spelt = λ n. refl;
}

room_checks : (room : ℕ) → Checks (with_room room) (λ n. n ≤ room)
room_checks room = record {
  forth = λ n h. rw (le-leb n room h) refl;
  back = λ n m e.
      let p = cond_ok (leb n room) (Ok n) (line_fault ShortTable 2) m e in
      (leb-true n room p.0, ok_along (λ k. n ≡ k) n m p.1 refl);
}

pub header_lawful : (name : List ℕ) → Clean name → (low high room : ℕ) → high < 10000000000 → Lawful (header name low high room) (header_words name) (CountFits low high room)
header_lawful name c low high room h = lawful_as (kind_lawful 1 (header_fields name low high) (λ r. get_or r 1 0) header_row (header_words name) (header_kind name c low high h) (with_room room) (λ n. n ≤ room) (room_checks room)) (CountFits low high room) (λ n k. ((omega arith, ((k.least, k.most), tt)), k.fits)) (λ n k. record { least = k.0.1.0.0; most = k.0.1.0.1; fits = k.1 })
