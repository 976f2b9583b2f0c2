-- A row of fields is read as it was written.
use Rattle.std.proofs.Common.{◌≡◌, ℕ, zero, suc, ◌+◌, ◌<◌, ◌≤◌, Bool, true, false, cond, ◌&&◌, eqb, ltb, leb, List, [], ◌∷◌, length, get_or, drop, Some, None, Ok, Err, decimal, Option, Result, sym, refl, ap, ◌∙◌, ap₂, arith}
use Rattle.std.proofs.ByRecursion.{All-get_or}
use Rattle.std.proofs.lemmas.Slice.Eq.{bytes_eq-Decides}
use Rattle.std.proofs.lemmas.List.{drop_all, drop_more}
use Rattle.std.proofs.lemmas.Bool.{and_from, and_parts, ltb-true, lt-ltb, leb-true, le-leb, eqb-true, eq-eqb}
use Rattle.std.specs.Str.Parse.{digits_value}
use Rattle.std.specs.List.{AllByRecursion}
use Rattle.std.specs.Str.{bytes_eq}
use Rattle.refusal.specs.declared.Refusal.{Refusal}
use Rattle.sheet_format.proofs.Cuts.{Clean}
use Rattle.sheet_format.proofs.Numbers.{decimal_reads_back, decimal_is_number, number_is_decimal, clean_decimal}
use Rattle.sheet_format.proofs.Results.{some_along, none_some, ok_along, err_ok, on_ok_parts, cond_ok}
use Rattle.sheet_format.specs.Fields.{Field, one_of, between, below, line_fault, one_further, place_among, or_refused, ranged, read_field, at_word, read_row, read_fields, Fits, field_word, RowFits, row_words}
use Rattle.sheet_format.specs.Numbers.{is_number}

-- words that differ from one another
abbrev pub Apart : List (List ℕ) → Type 0
Apart [] = Unit {0}
Apart (v ∷ vs) = AllByRecursion (λ w. bytes_eq w v ≡ false) vs × Apart vs

-- a field whose words can be told apart: clean words, or numbers of 10 digits at most
abbrev pub Proper : Field → Type 0
Proper (one_of f vs) = Apart vs × AllByRecursion Clean vs
Proper (between low high) = high < 10000000000
Proper (below n) = n ≤ 10000000000

-- a word among others is found at its place
pub place_forth : (vs : List (List ℕ)) (x : ℕ) → Apart vs → x < length vs → place_among (get_or vs x []) vs ≡ Some x
place_forth [] x a h = absurd (omega arith)
place_forth (v ∷ vs) zero a h = rw ((bytes_eq-Decides v v).1 refl) refl
place_forth (v ∷ vs) (suc x) a h = rw (All-get_or (λ w. bytes_eq w v ≡ false) vs x [] (omega arith) a.0, place_forth vs x a.1 (omega arith)) refl

pub place_back : (w : List ℕ) (vs : List (List ℕ)) (i : ℕ) → place_among w vs ≡ Some i → (i < length vs) × (get_or vs i [] ≡ w)
place_back w [] i e = absurd (none_some i e)
place_back w (v ∷ vs) i e = go (bytes_eq w v) refl (place_among w vs) (place_back w vs) e
  where
    Place : ℕ → Type 0
    Place j = (j < suc (length vs)) × (get_or (v ∷ vs) j [] ≡ w)

    go : (t : Bool) → bytes_eq w v ≡ t → (o : Option ℕ) → ((j : ℕ) → o ≡ Some j → (j < length vs) × (get_or vs j [] ≡ w)) → cond t (Some 0) (one_further o) ≡ Some i → Place i
    go true t o ih e = some_along Place 0 i e (omega arith, sym ((bytes_eq-Decides w v).0 t))
    go false t None ih e = absurd (none_some i e)
    go false t (Some j) ih e = some_along Place (suc j) i e (let q = ih j refl in (omega (arith, q.0), q.1))

-- a number within its range
ranged_forth : (t : Bool) (n : ℕ) → n < 10000000000 → t ≡ true → ranged t (decimal n) ≡ Ok n
ranged_forth t n h e = rw (decimal_is_number n h, e, decimal_reads_back n h) refl

ranged_back : (t : Bool) (w : List ℕ) (n : ℕ) → ranged t w ≡ Ok n → (t ≡ true) × (digits_value 10 w ≡ n) × (decimal n ≡ w)
ranged_back t w n e =
    let a = cond_ok (is_number w) _ _ n e in
    let b = cond_ok t _ _ n a.1 in
    ok_along (λ m. (t ≡ true) × (digits_value 10 w ≡ m) × (decimal m ≡ w)) (digits_value 10 w) n b.1 (b.0, refl, number_is_decimal w a.0)

-- a field
field_forth : (f : Field) (x : ℕ) → Proper f → Fits f x → read_field f (field_word f x) ≡ Ok x
field_forth (one_of f vs) x p h = rw (place_forth vs x p.0 h) refl
field_forth (between low high) x p h = ranged_forth _ x (omega arith) (rw (decimal_reads_back x (omega arith)) (and_from _ _ (le-leb low x h.0) (le-leb x high h.1)))
field_forth (below n) x p h = ranged_forth _ x (omega arith) (rw (decimal_reads_back x (omega arith)) (lt-ltb x n h))

place_read : (f : Refusal) (o : Option ℕ) (x : ℕ) → or_refused f o ≡ Ok x → o ≡ Some x
place_read f None x e = absurd (err_ok f x e)
place_read f (Some i) x e = ok_along (λ j. Some i ≡ Some j) i x e refl

field_back : (f : Field) (w : List ℕ) (x : ℕ) → read_field f w ≡ Ok x → Fits f x × (field_word f x ≡ w)
field_back (one_of f vs) w x e = place_back w vs x (place_read f (place_among w vs) x e)
field_back (between low high) w x e =
    let a = ranged_back (leb low (digits_value 10 w) && leb (digits_value 10 w) high) w x e in
    let b = and_parts (leb low (digits_value 10 w)) (leb (digits_value 10 w) high) a.0 in
    ((omega (arith, leb-true low (digits_value 10 w) b.0, a.1), omega (arith, leb-true (digits_value 10 w) high b.1, a.1)), a.2)
field_back (below n) w x e =
    let a = ranged_back (ltb (digits_value 10 w) n) w x e in
    (omega (arith, ltb-true (digits_value 10 w) n a.0, a.1), a.2)

field_clean : (f : Field) (x : ℕ) → Proper f → Fits f x → Clean (field_word f x)
field_clean (one_of f vs) x p h = All-get_or Clean vs x [] h p.1
field_clean (between low high) x p h = clean_decimal x (omega arith)
field_clean (below n) x p h = clean_decimal x (omega arith)

-- a row of fields
pub row_forth : (k : ℕ) (fs : List Field) (xs : List ℕ) → AllByRecursion Proper fs → RowFits fs xs → read_row k fs (row_words fs xs) ≡ Ok xs
row_forth k [] [] p h = refl
row_forth k [] (x ∷ xs) p h = absurd h
row_forth k (f ∷ fs) [] p h = absurd h
row_forth k (f ∷ fs) (x ∷ xs) p h = rw (field_forth f x p.0 h.0, row_forth (suc k) fs xs p.1 h.1) refl

word_read : (k : ℕ) (r : Result ℕ Refusal) (x : ℕ) → at_word k r ≡ Ok x → r ≡ Ok x
word_read k (Ok y) x e = ok_along (λ z. Path (Result ℕ Refusal) (Ok y) (Ok z)) y x e refl
word_read k (Err f) x e = absurd (err_ok (line_fault f k) x e)

abbrev RowIs : List Field → List (List ℕ) → List ℕ → Type 0
RowIs fs ws xs = RowFits fs xs × (row_words fs xs ≡ ws)

pub row_back : (k : ℕ) (fs : List Field) (ws : List (List ℕ)) (xs : List ℕ) → length ws ≡ length fs → read_row k fs ws ≡ Ok xs → RowFits fs xs × (row_words fs xs ≡ ws)
row_back k [] [] xs l e = ok_along (RowIs [] []) [] xs e (tt, refl)
row_back k [] (w ∷ ws) xs l e = absurd (omega arith)
row_back k (f ∷ fs) [] xs l e = absurd (omega arith)
row_back k (f ∷ fs) (w ∷ ws) xs l e =
    let a = on_ok_parts (at_word k (read_field f w)) _ xs e in
    let b = on_ok_parts (read_row (suc k) fs ws) _ xs a.2 in
    let c = field_back f w a.0 (word_read k (read_field f w) a.0 a.1) in
    let d = row_back (suc k) fs ws b.0 (omega arith) b.1 in
    ok_along (RowIs (f ∷ fs) (w ∷ ws)) (a.0 ∷ b.0) xs b.2 ((c.0, d.0), ap₂ (λ u us. u ∷ us) c.1 d.1)

pub row_clean : (fs : List Field) (xs : List ℕ) → AllByRecursion Proper fs → RowFits fs xs → AllByRecursion Clean (row_words fs xs)
row_clean [] [] p h = tt
row_clean [] (x ∷ xs) p h = absurd h
row_clean (f ∷ fs) [] p h = absurd h
row_clean (f ∷ fs) (x ∷ xs) p h = (field_clean f x p.0 h.0, row_clean fs xs p.1 h.1)

length_row_words : (fs : List Field) (xs : List ℕ) → RowFits fs xs → length (row_words fs xs) ≡ length fs
length_row_words [] [] h = refl
length_row_words [] (x ∷ xs) h = absurd h
length_row_words (f ∷ fs) [] h = absurd h
length_row_words (f ∷ fs) (x ∷ xs) h = ap suc (length_row_words fs xs h.1)

-- with the count of words
pub fields_forth : (k : ℕ) (fs : List Field) (xs : List ℕ) → AllByRecursion Proper fs → RowFits fs xs → read_fields k fs (row_words fs xs) ≡ Ok xs
fields_forth k fs xs p h = rw (eq-eqb (length (row_words fs xs)) (length fs) (length_row_words fs xs h), row_forth k fs xs p h) refl

pub fields_back : (k : ℕ) (fs : List Field) (ws : List (List ℕ)) (xs : List ℕ) → read_fields k fs ws ≡ Ok xs → RowFits fs xs × (row_words fs xs ≡ ws)
fields_back k fs ws xs e =
    let a = cond_ok (eqb (length ws) (length fs)) _ _ xs e in
    row_back k fs ws xs (eqb-true (length ws) (length fs) a.0) a.1

-- a row that fits is the row of its numbers
abbrev pub numbers_from : ℕ → ℕ → List ℕ → List ℕ
numbers_from i zero r = []
numbers_from i (suc n) r = get_or r i 0 ∷ numbers_from (suc i) n r

numbers_drop : (i n : ℕ) (r : List ℕ) → i + n ≡ length r → numbers_from i n r ≡ drop i r
numbers_drop i zero r h = sym (drop_all i r (omega arith))
numbers_drop i (suc n) r h =
    let next : suc i ≡ i + 1 = omega arith in
    ap (λ xs. get_or r i 0 ∷ xs) (numbers_drop (suc i) n r (omega arith) ∙ ap (λ k. drop k r) next) ∙ sym (drop_more r i 0 (omega arith))

length_row : (fs : List Field) (xs : List ℕ) → RowFits fs xs → length xs ≡ length fs
length_row [] [] h = refl
length_row [] (x ∷ xs) h = absurd h
length_row (f ∷ fs) [] h = absurd h
length_row (f ∷ fs) (x ∷ xs) h = ap suc (length_row fs xs h.1)

pub row_again : (fs : List Field) (r : List ℕ) → RowFits fs r → numbers_from 0 (length fs) r ≡ r
row_again fs r h = numbers_drop 0 (length fs) r (omega (arith, length_row fs r h))
