-- Readings do not look past the bytes that they take.
use Rattle.std.proofs.Common.{◌≡◌, ℕ, zero, suc, List, [], ◌∷◌, ◌++◌, Some, None, Ok, Err, Option, Result, refl}
use Rattle.refusal.specs.declared.Refusal.TheVariants.{EndsEarly}
use Rattle.sheet_format.proofs.Cuts.{first_line_stays}
use Rattle.sheet_format.proofs.Results.{ok_along, err_along, err_ok, ok_err, on_ok_parts}
use Rattle.sheet_format.specs.declared.Fault.{Fault}
use Rattle.sheet_format.specs.declared.LineFault.{LineFault}
use Rattle.sheet_format.specs.Cuts.{first_line, words}
use Rattle.sheet_format.specs.Fields.{on_ok}
use Rattle.sheet_format.specs.Reading.{Left, left, Reading, LineReading, fault, done, ◌>>=◌, line_read, line_due, next_line, counted_lines, header, section}

-- more bytes at the end
abbrev pub further : Left → List ℕ → Left
further l rest = left l.line (l.bytes ++ rest)

-- with more bytes at the end, r gives the same value and the same fault, unless the sheet ended early
pub record Local {A : Type 0} (r : Reading A) : Type 0 where
  pub goes : (l : Left) (rest : List ℕ) (a : A) (m : Left) → r l ≡ Ok (a, m) → r (further l rest) ≡ Ok (a, further m rest)
  pub stays : (l : Left) (rest : List ℕ) (f : Fault) → r l ≡ Err f → (f.refusal ≡ EndsEarly → ⊥) → r (further l rest) ≡ Err f

-- a line
line_goes : {A : Type 0} (g : LineReading A) (k : ℕ) (bs rest : List ℕ) (o : Option (List ℕ × List ℕ)) → first_line bs ≡ o → (a : A) (m : Left) → line_due g k o ≡ Ok (a, m) → line_due g k (first_line (bs ++ rest)) ≡ Ok (a, further m rest)
line_goes g k bs rest None h a m e = absurd (err_ok (fault EndsEarly k 0) (a, m) e)
line_goes {A} g k bs rest (Some x) h a m e = rw (first_line_stays bs rest x h) (go (g (words x.0)) e)
  where
    go : (r : Result A LineFault) → line_read k x.1 r ≡ Ok (a, m) → line_read k (x.1 ++ rest) r ≡ Ok (a, further m rest)
    go (Ok b) e = ok_along (λ y. Path (Result (A × Left) Fault) (Ok (b, left (suc k) (x.1 ++ rest))) (Ok (y.0, further y.1 rest))) (b, left (suc k) x.1) (a, m) e refl
    go (Err d) e = absurd (err_ok (fault d.refusal k d.word) (a, m) e)

line_stays : {A : Type 0} (g : LineReading A) (k : ℕ) (bs rest : List ℕ) (o : Option (List ℕ × List ℕ)) → first_line bs ≡ o → (f : Fault) → line_due g k o ≡ Err f → (f.refusal ≡ EndsEarly → ⊥) → line_due g k (first_line (bs ++ rest)) ≡ Err f
line_stays g k bs rest None h f e n = absurd (n (err_along (λ d. d.refusal ≡ EndsEarly) (fault EndsEarly k 0) f e refl))
line_stays {A} g k bs rest (Some x) h f e n = rw (first_line_stays bs rest x h) (go (g (words x.0)) e)
  where
    go : (r : Result A LineFault) → line_read k x.1 r ≡ Err f → line_read k (x.1 ++ rest) r ≡ Err f
    go (Ok b) e = absurd (ok_err (b, left (suc k) x.1) f e)
    go (Err d) e = e

pub next_line_local : {A : Type 0} (g : LineReading A) → Local (next_line g)
next_line_local g = record {
  goes = λ l rest a m e. line_goes g l.line l.bytes rest (first_line l.bytes) refl a m e;
  stays = λ l rest f e n. line_stays g l.line l.bytes rest (first_line l.bytes) refl f e n;
}

pub done_local : {A : Type 0} (a : A) → Local (done a)
done_local {A} a = record {
  goes = λ l rest b m e. ok_along (λ y. Path (Result (A × Left) Fault) (Ok (a, further l rest)) (Ok (y.0, further y.1 rest))) (a, l) (b, m) e refl;
  stays = λ l rest f e n. absurd (ok_err (a, l) f e);
}

-- one reading after another
module _ {A B : Type 0} (r : Reading A) (s : A → Reading B) (first : Local r) (then : (a : A) → Local (s a)) where
  bind_goes : (l : Left) (rest : List ℕ) (b : B) (m : Left) → (r >>= s) l ≡ Ok (b, m) → (r >>= s) (further l rest) ≡ Ok (b, further m rest)
  bind_goes l rest b m e =
      let p = on_ok_parts (r l) (λ x. s x.0 x.1) (b, m) e in
      rw (first.goes l rest p.0.0 p.0.1 p.1) ((then p.0.0).goes p.0.1 rest b m p.2)

  bind_stays : (l : Left) (rest : List ℕ) (f : Fault) → (r >>= s) l ≡ Err f → (f.refusal ≡ EndsEarly → ⊥) → (r >>= s) (further l rest) ≡ Err f
  bind_stays l rest f e n = go (r l) refl e
    where
      go : (x : Result (A × Left) Fault) → r l ≡ x → on_ok x (λ y. s y.0 y.1) ≡ Err f → (r >>= s) (further l rest) ≡ Err f
      go (Ok y) h e = rw (first.goes l rest y.0 y.1 h) ((then y.0).stays y.1 rest f e n)
      go (Err d) h e = rw (first.stays l rest f (err_along (λ c. r l ≡ Err c) d f e h) n) refl

  pub bind_local : Local (r >>= s)
  bind_local = record { goes = bind_goes; stays = bind_stays }

-- lines, and a section
pub counted_local : {A : Type 0} (g : List A → LineReading A) (n : ℕ) (seen : List A) → Local (counted_lines n g seen)
counted_local g zero seen = done_local []
counted_local g (suc n) seen = bind_local (next_line (g seen)) _ (next_line_local (g seen)) (λ a. bind_local (counted_lines n g (a ∷ seen)) _ (counted_local g n (a ∷ seen)) (λ xs. done_local (a ∷ xs)))

pub section_local : {A : Type 0} (name : List ℕ) (low high room : ℕ) (g : List A → LineReading A) → Local (section name low high room g)
section_local name low high room g = bind_local (next_line (header name low high room)) _ (next_line_local (header name low high room)) (λ n. counted_local g n [])
