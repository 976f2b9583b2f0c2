-- Lines read one by one, counting up.
use Rattle.std.proofs.Common.{◌≡◌, ℕ, zero, suc, ◌+◌, ◌<◌, ◌≤◌, cond, leb, List, [], ◌∷◌, ◌++◌, reverse, length, get_or, take, set, Some, None, Ok, Err, Option, Result, sym, refl, ap, ◌∙◌, append_assoc, append-nil, add-one, arith}
use mathlib.Core.List.{reverse-append}
use Rattle.std.proofs.lemmas.List.{take_more_set}
use Rattle.std.proofs.lemmas.Bool.Decides.{nat_tests}
use Rattle.refusal.specs.declared.Refusal.TheVariants.{WrongSection, ShortTable}
use Rattle.sheet_format.specs.declared.Fault.{Fault}
use Rattle.sheet_format.specs.declared.LineFault.{LineFault}
use Rattle.sheet_format.specs.Cuts.{first_line, words}
use Rattle.sheet_format.specs.Fields.{Field, on_ok, one_of, between, line_fault, read_fields, RowFits}
use Rattle.sheet_format.specs.Reading.{Left, left, LineReading, fault, line_due, line_read, next_line, counted_lines, header, section}
use Rattle.sheet_format.proofs.Results.{ok_along, err_ok, on_ok_parts}
use Rattle.sheet_format.proofs.Fields.{fields_back}

-- what a line that was taken says
pub line_value : {A : Type 0} (f : LineReading A) (l m : Left) (a : A) → next_line f l ≡ Ok (a, m) → (ws : List (List ℕ)) × (f ws ≡ Ok a)
line_value {A} f l m a e = go (first_line l.bytes) e
  where
    of : (ws : List (List ℕ)) (rest : List ℕ) (r : Result A LineFault) → f ws ≡ r → line_read l.line rest r ≡ Ok (a, m) → (us : List (List ℕ)) × Path (Result A LineFault) (f us) (Ok a)
    of ws rest (Ok b) h k = (ws, h ∙ ok_along (λ x. Path (Result A LineFault) (Ok b) (Ok x.0)) (b, left (suc l.line) rest) (a, m) k refl)
    of ws rest (Err x) h k = absurd (err_ok (fault x.refusal l.line x.word) (a, m) k)

    go : (o : Option (List ℕ × List ℕ)) → line_due f l.line o ≡ Ok (a, m) → (us : List (List ℕ)) × Path (Result A LineFault) (f us) (Ok a)
    go None k = absurd (err_ok _ (a, m) k)
    go (Some x) k = of (words x.0) x.1 (f (words x.0)) refl k

second_fits : (f : Field) (low high : ℕ) (r : List ℕ) → RowFits (f ∷ between low high ∷ []) r → get_or r 1 0 ≤ high
second_fits f low high [] h = absurd h
second_fits f low high (x ∷ []) h = absurd h.1
second_fits f low high (x ∷ y ∷ []) h = h.1.0.1
second_fits f low high (x ∷ y ∷ z ∷ r) h = absurd h.1.1

-- a header's count is within its limits
pub header_most : (name : List ℕ) (low high room : ℕ) (l m : Left) (n : ℕ) → next_line (header name low high room) l ≡ Ok (n, m) → n ≤ high
header_most name low high room l m n e =
    let v = line_value (header name low high room) l m n e in
    let fs : List Field = one_of WrongSection (name ∷ []) ∷ between low high ∷ [] in
    let p = on_ok_parts (read_fields 1 fs v.0) (λ r. cond (leb (get_or r 1 0) room) (Ok (get_or r 1 0)) (Err (line_fault ShortTable 2))) n v.1 in
    let fits = second_fits (one_of WrongSection (name ∷ [])) low high p.0 (fields_back 1 fs v.0 p.0 p.1).0 in
    let passed = p.2 in
    grind (arith, nat_tests)

reverse_cons : {A : Type 0} (x : A) (ys seen : List A) → reverse (x ∷ ys) ++ seen ≡ reverse ys ++ (x ∷ seen)
reverse_cons x ys seen = ap (λ l. l ++ seen) (reverse-append (x ∷ []) ys) ∙ append_assoc (reverse ys) (x ∷ []) seen

module _ {A : Type 0} (f : List A → LineReading A) where
  -- what the lines after the first give
  abbrev after_first : (n : ℕ) (seen : List A) → A × Left → Result (List A × Left) Fault
  after_first n seen x = on_ok (counted_lines n f (x.0 ∷ seen) x.1) (λ y. Ok (x.0 ∷ y.0, y.1))

  -- n lines passed, and the next one passes
  pub counted_push : (n : ℕ) (seen xs : List A) (l m m' : Left) (a : A) → counted_lines n f seen l ≡ Ok (xs, m) → next_line (f (reverse xs ++ seen)) m ≡ Ok (a, m') → counted_lines (suc n) f seen l ≡ Ok (xs ++ a ∷ [], m')
  counted_push zero seen xs l m m' a e h =
      ok_along (λ x. next_line (f (reverse x.0 ++ seen)) x.1 ≡ Ok (a, m') → counted_lines 1 f seen l ≡ Ok (x.0 ++ a ∷ [], m')) ([], l) (xs, m) e (λ k. rw k refl) h
  counted_push (suc n) seen xs l m m' a e h =
      let p = on_ok_parts (next_line (f seen) l) (after_first n seen) (xs, m) e in
      let q = on_ok_parts (counted_lines n f (p.0.0 ∷ seen) p.0.1) (λ y. Ok (p.0.0 ∷ y.0, y.1)) (xs, m) p.2 in
      ok_along (λ z. next_line (f (reverse z.0 ++ seen)) z.1 ≡ Ok (a, m') → counted_lines (suc (suc n)) f seen l ≡ Ok (z.0 ++ a ∷ [], m')) (p.0.0 ∷ q.0.0, q.0.1) (xs, m) q.2
      (λ k.
      let more = counted_push n (p.0.0 ∷ seen) q.0.0 p.0.1 q.0.1 m' a q.1 (ap (λ s. next_line (f s) q.0.1) (sym (reverse_cons p.0.0 q.0.0 seen)) ∙ k) in
      ap (λ r. on_ok r (after_first (suc n) seen)) p.1 ∙ ap (λ r. on_ok r (λ y. Ok (p.0.0 ∷ y.0, y.1))) more)
      h

  -- n lines passed, and the next one is refused
  pub counted_stop : (n k : ℕ) (seen xs : List A) (l m : Left) (e : Fault) → n < k → counted_lines n f seen l ≡ Ok (xs, m) → next_line (f (reverse xs ++ seen)) m ≡ Err e → counted_lines k f seen l ≡ Err e
  counted_stop n zero seen xs l m e lt c h = absurd (omega arith)
  counted_stop zero (suc k) seen xs l m e lt c h =
      ok_along (λ x. next_line (f (reverse x.0 ++ seen)) x.1 ≡ Err e → counted_lines (suc k) f seen l ≡ Err e) ([], l) (xs, m) c (λ s. ap (λ r. on_ok r (after_first k seen)) s) h
  counted_stop (suc n) (suc k) seen xs l m e lt c h =
      let p = on_ok_parts (next_line (f seen) l) (after_first n seen) (xs, m) c in
      let q = on_ok_parts (counted_lines n f (p.0.0 ∷ seen) p.0.1) (λ y. Ok (p.0.0 ∷ y.0, y.1)) (xs, m) p.2 in
      ok_along (λ z. next_line (f (reverse z.0 ++ seen)) z.1 ≡ Err e → counted_lines (suc k) f seen l ≡ Err e) (p.0.0 ∷ q.0.0, q.0.1) (xs, m) q.2
      (λ s.
      let less : n < k = omega arith in
      let stop = counted_stop n k (p.0.0 ∷ seen) q.0.0 p.0.1 q.0.1 e less q.1 (ap (λ t. next_line (f t) q.0.1) (sym (reverse_cons p.0.0 q.0.0 seen)) ∙ s) in
      ap (λ r. on_ok r (after_first k seen)) p.1 ∙ ap (λ r. on_ok r (λ y. Ok (p.0.0 ∷ y.0, y.1))) stop)
      h

  -- a line that passes is written behind those before it
  pub table_push : (n : ℕ) (table : List A) (l m m' : Left) (a : A) → n < length table → counted_lines n f [] l ≡ Ok (take n table, m) → next_line (f (reverse (take n table))) m ≡ Ok (a, m') → counted_lines (n + 1) f [] l ≡ Ok (take (n + 1) (set table n a), m')
  table_push n table l m m' a lt c h =
      ap (λ k. counted_lines k f [] l) (add-one n) ∙ counted_push n [] (take n table) l m m' a c (ap (λ s. next_line (f s) m) (append-nil (reverse (take n table))) ∙ h) ∙ ap (λ t. Ok (t, m')) (sym (take_more_set table n a lt))

  -- a line that is refused stops the section
  pub section_stop : (name : List ℕ) (low high room n k : ℕ) (table : List A) (l₀ l m : Left) (e : Fault) → next_line (header name low high room) l₀ ≡ Ok (k, l) → n < k → counted_lines n f [] l ≡ Ok (take n table, m) → next_line (f (reverse (take n table))) m ≡ Err e → section name low high room f l₀ ≡ Err e
  section_stop name low high room n k table l₀ l m e begun lt c h =
      ap (λ r. on_ok r (λ x. counted_lines x.0 f [] x.1)) begun ∙ counted_stop n k [] (take n table) l m e lt c (ap (λ s. next_line (f s) m) (append-nil (reverse (take n table))) ∙ h)
