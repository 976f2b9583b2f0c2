-- A kind of line: what it may say, and how it is written.
use Rattle.std.proofs.Common.{◌≡◌, ℕ, ◌<◌, List, [], ◌∷◌, length, Ok, Result, sym, refl, ap, ◌∙◌, subst, arith}
use Rattle.std.specs.List.{AllByRecursion}
use Rattle.sheet_format.proofs.Cuts.{Clean, Tidy}
use Rattle.sheet_format.proofs.Fields.{Proper, fields_forth, fields_back, row_clean}
use Rattle.sheet_format.proofs.Results.{ok_along, on_ok_parts}
use Rattle.sheet_format.specs.declared.LineFault.{LineFault}
use Rattle.sheet_format.specs.Fields.{Field, on_ok, read_fields, RowFits, row_words}
use Rattle.sheet_format.specs.Reading.{LineReading}

-- f reads just the lines whose words are those of a good value
pub record Lawful {A : Type 0} (f : LineReading A) (ws : A → List (List ℕ)) (Good : A → Type 0) : Type 0 where
  pub forth : (a : A) → Good a → f (ws a) ≡ Ok a
  pub back : (us : List (List ℕ)) (a : A) → f us ≡ Ok a → Good a × (ws a ≡ us)
  pub tidy : (a : A) → Good a → Tidy (ws a)

-- the same values in other words
pub lawful_as : {A : Type 0} {f : LineReading A} {ws : A → List (List ℕ)} {Good : A → Type 0} → Lawful f ws Good → (Fine : A → Type 0) → ((a : A) → Fine a → Good a) → ((a : A) → Good a → Fine a) → Lawful f ws Fine
lawful_as l Fine there back = record {
  forth = λ a h. l.forth a (there a h);
  back = λ us a e. (back a (l.back us a e).0, (l.back us a e).1);
  tidy = λ a h. l.tidy a (there a h);
}

-- a value as a row of fields, and a row as a value
pub record RowKind {A : Type 0} (fs : List Field) (of : List ℕ → A) (row : A → List ℕ) (ws : A → List (List ℕ)) : Type 0 where
  pub proper : AllByRecursion Proper fs
  pub some : 0 < length fs
  pub value_back : (a : A) → of (row a) ≡ a
  pub row_back : (r : List ℕ) → RowFits fs r → row (of r) ≡ r
  pub spelt : (a : A) → row_words fs (row a) ≡ ws a

-- checks on a value that was read
pub record Checks {A : Type 0} (check : A → Result A LineFault) (Pass : A → Type 0) : Type 0 where
  pub forth : (a : A) → Pass a → check a ≡ Ok a
  pub back : (a b : A) → check a ≡ Ok b → Pass a × (a ≡ b)

pub no_checks : {A : Type 0} → Checks (λ (a : A). Ok a) (λ a. Unit {0})
no_checks = record { forth = λ a h. refl; back = λ a b e. (tt, ok_along (λ c. a ≡ c) a b e refl) }

tidy_words : (ws : List (List ℕ)) → 0 < length ws → AllByRecursion Clean ws → Tidy ws
tidy_words [] l c = absurd (omega arith)
tidy_words (w ∷ ws) l c = c

some_words : (fs : List Field) (xs : List ℕ) → 0 < length fs → RowFits fs xs → 0 < length (row_words fs xs)
some_words [] xs l h = absurd (omega arith)
some_words (f ∷ fs) [] l h = absurd h
some_words (f ∷ fs) (x ∷ xs) l h = omega arith

module _ {A : Type 0} (k : ℕ) (fs : List Field) (of : List ℕ → A) (row : A → List ℕ) (ws : A → List (List ℕ)) (kind : RowKind fs of row ws) (check : A → Result A LineFault) (Pass : A → Type 0) (checks : Checks check Pass) where
  kind_forth : (a : A) → RowFits fs (row a) × Pass a → on_ok (read_fields k fs (ws a)) (λ r. check (of r)) ≡ Ok a
  kind_forth a h = rw (← kind.spelt a, fields_forth k fs (row a) kind.proper h.0, kind.value_back a) (checks.forth a h.1)

  kind_back : (us : List (List ℕ)) (a : A) → on_ok (read_fields k fs us) (λ r. check (of r)) ≡ Ok a → (RowFits fs (row a) × Pass a) × (ws a ≡ us)
  kind_back us a e =
      let p = on_ok_parts (read_fields k fs us) (λ r. check (of r)) a e in
      let q = fields_back k fs us p.0 p.1 in
      let c = checks.back (of p.0) a p.2 in
      subst (λ b. (RowFits fs (row b) × Pass b) × (ws b ≡ us)) c.1 ((subst (RowFits fs) (sym (kind.row_back p.0 q.0)) q.0, c.0), sym (kind.spelt (of p.0)) ∙ ap (row_words fs) (kind.row_back p.0 q.0) ∙ q.1)

  kind_tidy : (a : A) → RowFits fs (row a) × Pass a → Tidy (ws a)
  kind_tidy a h = subst Tidy (kind.spelt a) (tidy_words (row_words fs (row a)) (some_words fs (row a) kind.some h.0) (row_clean fs (row a) kind.proper h.0))

  -- a line of fields, then checks
  pub kind_lawful : Lawful (λ us. on_ok (read_fields k fs us) (λ r. check (of r))) ws (λ a. RowFits fs (row a) × Pass a)
  kind_lawful = record { forth = kind_forth; back = kind_back; tidy = kind_tidy }
