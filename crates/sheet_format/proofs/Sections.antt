-- A section is read as it was written.
use Rattle.std.proofs.Common.{◌≡◌, ℕ, zero, suc, ◌<◌, List, [], ◌∷◌, ◌++◌, length, sym, refl, ap, subst, arith}
use Rattle.std.specs.List.{flat_map, AllByRecursion}
use Rattle.sheet_format.proofs.Cuts.{Clean}
use Rattle.sheet_format.proofs.Headers.{header_lawful}
use Rattle.sheet_format.proofs.LineKinds.{Lawful}
use Rattle.sheet_format.proofs.Readings.{Reads, next_line_reads, done_reads, bind_reads, made_reads, reads_as}
use Rattle.sheet_format.specs.Cuts.{line_of}
use Rattle.sheet_format.specs.Reading.{LineReading, done, next_line, counted_lines, header, section}
use Rattle.sheet_format.specs.Spelling.{header_words, section_of}
use Rattle.sheet_format.specs.WellFormed.{CountFits}

-- each entry is good after those before it, the last first
abbrev pub EachAfter : {A : Type 0} → (List A → A → Type 0) → List A → List A → Type 0
EachAfter Good seen [] = Unit {0}
EachAfter Good seen (x ∷ xs) = Good seen x × EachAfter Good (x ∷ seen) xs

abbrev tail : {A : Type 0} → List A → List A
tail [] = []
tail (x ∷ xs) = xs

module _ {A : Type 0} (f : List A → LineReading A) (ws : A → List (List ℕ)) (Good : List A → A → Type 0) (lawful : (seen : List A) → Lawful (f seen) ws (Good seen)) where
  abbrev lines : List A → List ℕ
  lines xs = flat_map (λ x. line_of (ws x)) xs

  abbrev Counted : ℕ → List A → List A → Type 0
  Counted n seen xs = (length xs ≡ n) × EachAfter Good seen xs

  none_there : (seen xs : List A) → Counted 0 seen xs → (xs ≡ []) × ([] ≡ lines xs)
  none_there seen [] h = (refl, refl)
  none_there seen (x ∷ xs) h = absurd (omega arith)

  none_back : (seen xs : List A) → xs ≡ [] → Counted 0 seen xs × ([] ≡ lines xs)
  none_back seen xs e = subst (λ ys. Counted 0 seen ys × ([] ≡ lines ys)) (sym e) ((refl, tt), refl)

  abbrev Further : ℕ → List A → A → List A → Type 0
  Further n seen x xs = Counted n (x ∷ seen) (tail xs) × (x ∷ tail xs ≡ xs)

  more_part : (n : ℕ) (seen xs : List A) → Counted (suc n) seen xs → (x : A) × Good seen x × Further n seen x xs × (lines xs ≡ line_of (ws x) ++ lines (tail xs))
  more_part n seen [] h = absurd (omega arith)
  more_part n seen (x ∷ xs) h = (x, h.1.0, ((omega arith, h.1.1), refl), refl)

  more_whole : (n : ℕ) (seen : List A) (x : A) (xs : List A) → Good seen x → Further n seen x xs → Counted (suc n) seen xs × (lines xs ≡ line_of (ws x) ++ lines (tail xs))
  more_whole n seen x xs g h = subst (λ ys. Counted (suc n) seen ys × (lines ys ≡ line_of (ws x) ++ lines (tail xs))) h.1 ((ap suc h.0.0, (g, h.0.1)), refl)

  -- n lines
  pub counted_reads : (n : ℕ) (seen : List A) → Reads (counted_lines n f seen) (flat_map (λ x. line_of (ws x))) (λ xs. (length xs ≡ n) × EachAfter Good seen xs)
  counted_reads zero seen = reads_as (done []) (λ xs. []) lines (λ xs. xs ≡ []) (Counted 0 seen) (done_reads []) (none_there seen) (none_back seen)
  counted_reads (suc n) seen = bind_reads (next_line (f seen)) _ (λ x. line_of (ws x)) (Good seen) (λ x xs. lines (tail xs)) (Further n seen) lines (Counted (suc n) seen) (next_line_reads (f seen) ws (Good seen) (lawful seen)) (λ x g. made_reads (counted_lines n f (x ∷ seen)) lines (Counted n (x ∷ seen)) (λ xs. x ∷ xs) tail (λ xs. refl) (counted_reads n (x ∷ seen))) (record { part = more_part n seen; whole = more_whole n seen })

  -- a header and its lines
  pub section_reads : (name : List ℕ) → Clean name → (low high room : ℕ) → high < 10000000000 → Reads (section name low high room f) (section_of name ws) (λ xs. CountFits low high room (length xs) × EachAfter Good [] xs)
  section_reads name c low high room h = bind_reads (next_line (header name low high room)) _ (λ n. line_of (header_words name n)) (CountFits low high room) (λ n. lines) (λ n. Counted n []) (section_of name ws) (λ xs. CountFits low high room (length xs) × EachAfter Good [] xs) (next_line_reads (header name low high room) (header_words name) (CountFits low high room) (header_lawful name c low high room h)) (λ n g. counted_reads n []) (record {
    part = λ xs w. (length xs, w.0, (refl, w.1), refl);
    whole = λ n xs g k. ((subst (CountFits low high room) (sym k.0) g, k.1), ap (λ m. line_of (header_words name m) ++ lines xs) k.0);
  })

-- where the entries before do not matter
after_all : {A : Type 0} (P : A → Type 0) (seen xs : List A) → AllByRecursion P xs → EachAfter (λ _. P) seen xs
after_all P seen [] h = tt
after_all P seen (x ∷ xs) h = (h.0, after_all P (x ∷ seen) xs h.1)

all_after : {A : Type 0} (P : A → Type 0) (seen xs : List A) → EachAfter (λ _. P) seen xs → AllByRecursion P xs
all_after P seen [] h = tt
all_after P seen (x ∷ xs) h = (h.0, all_after P (x ∷ seen) xs h.1)

pub each_reads : {A : Type 0} (f : List A → LineReading A) (ws : A → List (List ℕ)) (P : A → Type 0) → ((seen : List A) → Lawful (f seen) ws P) → (name : List ℕ) → Clean name → (low high room : ℕ) → high < 10000000000 → Reads (section name low high room f) (section_of name ws) (λ xs. CountFits low high room (length xs) × AllByRecursion P xs)
each_reads f ws P lawful name c low high room h = reads_as (section name low high room f) (section_of name ws) (section_of name ws) (λ xs. CountFits low high room (length xs) × EachAfter (λ _. P) [] xs) (λ xs. CountFits low high room (length xs) × AllByRecursion P xs) (section_reads f ws (λ _. P) lawful name c low high room h) (λ xs w. ((w.0, after_all P [] xs w.1), refl)) (λ xs w. ((w.0, all_after P [] xs w.1), refl))
