-- The first line of a sheet, and the words of a line, by the place of the first LF or space.
use Rattle.std.proofs.Common.{◌≡◌, ℕ, suc, ◌+◌, ◌-◌, ◌<◌, ◌≤◌, Bool, true, false, cond, eqb, ⊎_elim, List, [], ◌∷◌, length, get_or, take, drop, Some, None, Option, sym, refl, ap, ap₂, ◌∙◌, arith, get_or-drop}
use Rattle.std.specs.List.{position, position_or_len, before_first, after_first, slice_range, slice_split, onto_first, count_by}
use Rattle.std.specs.Option.{option_map_or}
use Rattle.std.proofs.lemmas.List.{take_all, drop_all, length-drop, drop-drop, get_or_past, length-take-le}
use Rattle.std.proofs.lemmas.List.Splits.{slice_split_first, slice_split_none, length-slice_split}
use Rattle.std.proofs.lemmas.List.Sums.{fails_before_first}
use Rattle.std.proofs.lemmas.Grind.{common_steps}
use Rattle.std.proofs.lemmas.Bool.{cases_Bool, cond-true, cond-false, lt-ltb, le-ltb}
use Rattle.sheet_format.specs.Cuts.{longer, first_line, in_front, words}
use Rattle.words.specs.Parts.{LineTo, WordTo, WordFrom, words_after}

longer_part : (b : ℕ) (s : List ℕ) (k j : ℕ) → j ≡ suc k → longer b (Some (take k s, drop (k + 1) s)) ≡ Some (take j (b ∷ s), drop (j + 1) (b ∷ s))
longer_part b s k j e =
    let next : suc (k + 1) ≡ j + 1 = omega arith in
    ap₂ (λ x y. Some (take x (b ∷ s), drop y (b ∷ s))) (sym e) next

-- the first line ends at the first LF
first_found : (s : List ℕ) → position_or_len (λ b. eqb b 10) s < length s → first_line s ≡ Some (before_first (λ b. eqb b 10) s, after_first (λ b. eqb b 10) s)
first_found [] h = absurd (omega arith)
first_found (b ∷ s) h =
    ⊎_elim (λ (e : eqb b 10 ≡ true). rw e refl) (λ (e : eqb b 10 ≡ false). let k = rw e at h in rw (e, first_found s (omega arith)) (longer_part b s _ _ (omega arith))) (cases_Bool (eqb b 10))

no_first : (s : List ℕ) → length s ≤ position_or_len (λ b. eqb b 10) s → first_line s ≡ None
no_first [] h = refl
no_first (b ∷ s) h =
    ⊎_elim (λ (e : eqb b 10 ≡ true). let k = rw e at h in absurd (omega arith)) (λ (e : eqb b 10 ≡ false). let k = rw e at h in rw (e, no_first s (omega arith)) refl) (cases_Bool (eqb b 10))

-- the words are the parts between spaces
front_or_first : (t : Bool) (b : ℕ) (ws : List (List ℕ)) → 0 < length ws → in_front t b ws ≡ cond t ([] ∷ ws) (onto_first b ws)
front_or_first true b ws h = refl
front_or_first false b [] h = absurd (omega arith)
front_or_first false b (w ∷ ws) h = refl

pub words_is : (l : List ℕ) → words l ≡ slice_split (λ b. eqb b 32) l
words_is [] = refl
words_is (b ∷ l) =
    ap (in_front (eqb b 32) b) (words_is l) ∙ front_or_first (eqb b 32) b (slice_split (λ b. eqb b 32) l) (omega (arith, length-slice_split (λ b. eqb b 32) l))

pub length_words : (l : List ℕ) → length (words l) ≡ count_by (λ b. eqb b 32) l + 1
length_words l = ap length (words_is l) ∙ length-slice_split (λ b. eqb b 32) l

place_some : {X : Type 0} (p : X → Bool) (xs : List X) (n : ℕ) → position p xs ≡ Some n → (position_or_len p xs ≡ n) × (n < length xs)
place_some p xs n e = grind (arith, common_steps)

place_none : {X : Type 0} (p : X → Bool) (xs : List X) → position p xs ≡ None → length xs ≤ position_or_len p xs
place_none p xs e = grind (arith, common_steps)

-- a part, and what stands after it and one byte more
part_is : (s : List ℕ) (from n k : ℕ) → k ≡ n → take k (drop from s) ≡ take (from + n - from) (drop from s)
part_is s from n k e = ap (λ i. take i (drop from s)) (omega arith)

rest_is : (s : List ℕ) (from n k : ℕ) → k ≡ n → drop (k + 1) (drop from s) ≡ drop (from + n + 1) s
rest_is s from n k e = drop-drop (k + 1) from s ∙ ap (λ i. drop i s) (omega arith)

rest_whole : (s : List ℕ) (from : ℕ) → slice_range s from (length s) ≡ drop from s
rest_whole s from = take_all (length s - from) (drop from s) (omega (arith, length-drop from s))

-- the word from an index ends at the first space after it
pub word_found : (l : List ℕ) (from n : ℕ) → from ≤ length l → position (λ b. eqb b 32) (drop from l) ≡ Some n → WordTo l from (from + n)
word_found l from n low e =
    let p = place_some (λ b. eqb b 32) (drop from l) n e in
    record {
      low = omega arith;
      high = omega (arith, length-drop from l);
      cut =
          words_is (drop from l) ∙ slice_split_first (λ b. eqb b 32) (drop from l) 0 (omega arith)
          ∙ ap₂ (λ w ws. w ∷ ws) (part_is l from n _ p.0) (ap (slice_split (λ b. eqb b 32)) (rest_is l from n _ p.0) ∙ sym (cond-true _ _ _ (lt-ltb (from + n) (length l) (omega (arith, length-drop from l))) ∙ words_is (drop (from + n + 1) l)));
    }

-- or with the line
pub word_whole : (l : List ℕ) (from : ℕ) → from ≤ length l → position (λ b. eqb b 32) (drop from l) ≡ None → WordTo l from (length l)
word_whole l from low e = record {
  low = low;
  high = omega arith;
  cut =
      words_is (drop from l) ∙ slice_split_none (λ b. eqb b 32) (drop from l) (λ k d lt. fails_before_first (λ b. eqb b 32) (drop from l) k d (omega (arith, place_none (λ b. eqb b 32) (drop from l) e)))
      ∙ sym (ap₂ (λ w ws. w ∷ ws) (rest_whole l from) (cond-false _ _ _ (le-ltb (length l) (length l) (omega arith))));
}

pub word_end_is : (l : List ℕ) (from r : ℕ) → from ≤ length l → r ≡ option_map_or (λ n. from + n) (position (λ b. eqb b 32) (slice_range l from (length l))) (length l) → WordTo l from r
word_end_is l from r low e = rw e (go (position (λ b. eqb b 32) (slice_range l from (length l))) refl)
  where
    go : (o : Option ℕ) → position (λ b. eqb b 32) (slice_range l from (length l)) ≡ o → WordTo l from (option_map_or (λ n. from + n) o (length l))
    go None e = word_whole l from low (rw (rest_whole l from) at e)
    go (Some n) e = word_found l from n low (rw (rest_whole l from) at e)

-- the line from an index ends at the first LF after it
pub line_found : (s : List ℕ) (from n : ℕ) (rest : List ℕ) → from ≤ length s → rest ≡ slice_range s from (length s) → Some n ≡ position (λ b. eqb b 10) rest → LineTo s from (Some (from + n))
line_found s from n rest low r f =
    let e : position (λ b. eqb b 10) (drop from s) ≡ Some n = ap (position (λ b. eqb b 10)) (sym (r ∙ rest_whole s from)) ∙ sym f in
    let p = place_some (λ b. eqb b 10) (drop from s) n e in
    let long : length (take (from + n - from) (drop from s)) ≡ n = length-take-le (from + n - from) (drop from s) (omega (arith, length-drop from s)) ∙ omega arith in (
      omega arith,
      omega (arith, length-drop from s),
      record {
        first = first_found (drop from s) (omega arith) ∙ ap₂ (λ l r. Some (l, r)) (part_is s from n _ p.0) (rest_is s from _ _ (p.0 ∙ sym long));
        part = ap (λ k. take k (drop from s)) (omega arith);
        within = omega (arith, length-drop from s);
      },
    )

pub line_unended : (s : List ℕ) (from : ℕ) (rest : List ℕ) → rest ≡ slice_range s from (length s) → None ≡ position (λ b. eqb b 10) rest → first_line (drop from s) ≡ None
line_unended s from rest r f =
    no_first (drop from s) (place_none (λ b. eqb b 10) (drop from s) (ap (position (λ b. eqb b 10)) (sym (r ∙ rest_whole s from)) ∙ sym f))

-- k words have been passed, and the next begins at an index
abbrev pub Passed : List ℕ → ℕ → ℕ → Type 0
Passed l k at = words (drop at l) ≡ drop k (words l)

pub pass_one : (l : List ℕ) (k j at end : ℕ) → Passed l k at → WordTo l at end → end < length l → j ≡ k + 1 → Passed l j (end + 1)
pass_one l k j at end h w lt e =
    let rest : words_after l end ≡ words (drop (end + 1) l) = cond-true _ _ _ (lt-ltb end (length l) lt) in
    rw e (sym rest ∙ ap (drop 1) (sym w.cut ∙ h) ∙ drop-drop 1 k (words l))

pub first_passed : (l : List ℕ) (k j at : ℕ) → at ≤ length l → Passed l k at → j ≡ k → WordFrom l j at
first_passed l k j at high h e = record {
  within = high;
  first = ap (λ ws. get_or ws 0 []) h ∙ get_or-drop k (words l) 0 [] ∙ ap (λ n. get_or (words l) n []) (omega arith);
}

-- the line ends with the word after k others, so that every later word is the empty one at its end
pub none_left : (l : List ℕ) (k at end place : ℕ) → Passed l k at → WordTo l at end → length l ≤ end → k < place → WordFrom l place end
none_left l k at end place h w past lt =
    let rest : words_after l end ≡ [] = cond-false _ _ _ (le-ltb end (length l) past) in
    let one : length (drop k (words l)) ≡ 1 = ap length (sym h ∙ w.cut ∙ ap (λ ws. take (end - at) (drop at l) ∷ ws) rest) in
    record {
      within = w.high;
      first = ap (λ ws. get_or (words ws) 0 []) (drop_all end l past) ∙ sym (get_or_past (words l) place [] (omega (arith, length-drop k (words l))));
    }
