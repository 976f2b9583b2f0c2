-- Where the moves of each position stand in a list of moves that never falls.
use Rattle.std.proofs.Common.{◌≡◌, ℕ, suc, ◌+◌, ◌-◌, ◌<◌, ◌≤◌, eqb, List, [], ◌∷◌, ◌++◌, length, get_or, take, drop, set, sym, refl, ap, ◌∙◌, append_assoc, arith}
use Rattle.std.specs.List.{prefix_len}
use Rattle.std.proofs.lemmas.List.{take_more, drop_more, take_all, set_at, length-take-le, length-drop}
use Rattle.std.proofs.lemmas.Bool.Decides.{nat_tests}
use Rattle.std.proofs.lemmas.Grind.{common_steps}
use Rattle.entries.specs.declared.Move.{Move}
use Rattle.entries.specs.declared.Position.{Position}
use Rattle.entries.specs.declared.PositionEntry.{PositionEntry}
use Rattle.sheet_format.specs.Boards.{count_before, entries_from}
use Rattle.sheet_format.specs.Lines.{count_from}
use Rattle.sheet_format.specs.WellFormed.{NeverFalling}
use Rattle.sheet_format.proofs.Sorted.{none_from, none_before}

-- the run of moves that start at p, behind those that start before it, has them all
run_more : (p : ℕ) (m : Move) (ms : List Move) → NeverFalling m.from ms → prefix_len (λ x. eqb x.from p) (drop (count_before p ms) ms) ≡ count_from p ms → prefix_len (λ x. eqb x.from p) (drop (count_before p (m ∷ ms)) (m ∷ ms)) ≡ count_from p (m ∷ ms)
run_more p m ms s ih =
    let before : p ≤ m.from → count_before p ms ≡ 0 = λ h. none_before p m.from ms h s in
    let from : p < m.from → count_from p ms ≡ 0 = λ h. ap length (none_from p m.from ms h s) in
    grind (arith, nat_tests, common_steps)

pub run_counts : (p f : ℕ) (ms : List Move) → NeverFalling f ms → prefix_len (λ m. eqb m.from p) (drop (count_before p ms) ms) ≡ count_from p ms
run_counts p f [] s = refl
run_counts p f (m ∷ ms) s = run_more p m ms s.1 (run_counts p m.from ms s.1)

-- the moves that start before the next position
next_more : (p : ℕ) (m : Move) (ms : List Move) → count_before (p + 1) ms ≡ count_before p ms + count_from p ms → count_before (p + 1) (m ∷ ms) ≡ count_before p (m ∷ ms) + count_from p (m ∷ ms)
next_more p m ms ih = grind (arith, nat_tests)

pub before_next : (p : ℕ) (ms : List Move) → count_before (p + 1) ms ≡ count_before p ms + count_from p ms
before_next p [] = refl
before_next p (m ∷ ms) = next_more p m ms (before_next p ms)

-- one entry more of the position table
abbrev entry_at : List Move → ℕ → Position → PositionEntry
entry_at ms p x = record { position = x; first = count_before p ms; degree = count_from p ms }

entries_push : (ms : List Move) (p : ℕ) (xs : List Position) (x : Position) → entries_from ms p (xs ++ x ∷ []) ≡ entries_from ms p xs ++ entry_at ms (p + length xs) x ∷ []
entries_push ms p [] x = let same : p ≡ p + 0 = omega arith in ap (λ q. entry_at ms q x ∷ []) same
entries_push ms p (y ∷ xs) x =
    let same : suc p + length xs ≡ p + suc (length xs) = omega arith in
    ap (λ l. entry_at ms p y ∷ l) (entries_push ms (suc p) xs x ∙ ap (λ q. entries_from ms (suc p) xs ++ entry_at ms q x ∷ []) same)

pub length_entries : (ms : List Move) (p : ℕ) (xs : List Position) → length (entries_from ms p xs) ≡ length xs
length_entries ms p [] = refl
length_entries ms p (x ∷ xs) = ap suc (length_entries ms (suc p) xs)

-- the table after the positions below p, and after p too
module _ (ms : List Move) (xs : List Position) (old : List PositionEntry) where
  abbrev pub written : ℕ → List PositionEntry
  written p = entries_from ms 0 (take p xs) ++ drop p old

  pub write_next : (p : ℕ) (e : PositionEntry) (x : Position) → p < length xs → p < length old → e ≡ entry_at ms p (get_or xs p x) → set (written p) p e ≡ written (p + 1)
  write_next p e x lt room is =
      let front : length (entries_from ms 0 (take p xs)) ≡ p = length_entries ms 0 (take p xs) ∙ length-take-le p xs (omega arith) in
      let place : 0 + length (take p xs) ≡ p = omega (arith, length-take-le p xs (omega arith)) in
      let more : entries_from ms 0 (take (p + 1) xs) ≡ entries_from ms 0 (take p xs) ++ e ∷ [] = ap (entries_from ms 0) (take_more xs p x lt) ∙ entries_push ms 0 (take p xs) (get_or xs p x) ∙ ap (λ q. entries_from ms 0 (take p xs) ++ entry_at ms q (get_or xs p x) ∷ []) place ∙ ap (λ y. entries_from ms 0 (take p xs) ++ y ∷ []) (sym is) in
      ap (λ l. set (entries_from ms 0 (take p xs) ++ l) p e) (drop_more old p e room) ∙ set_at (entries_from ms 0 (take p xs)) (get_or old p e) (drop (p + 1) old) e p front ∙ sym (append_assoc (entries_from ms 0 (take p xs)) (e ∷ []) (drop (p + 1) old)) ∙ ap (λ l. l ++ drop (p + 1) old) (sym more)

-- the run from where the moves of p begin
pub run_of : (p : ℕ) (ms : List Move) (first f : ℕ) → first ≡ count_before p ms → NeverFalling f ms → prefix_len (λ m. eqb m.from p) (take (length ms - first) (drop first ms)) ≡ count_from p ms
run_of p ms first f is s =
    ap (prefix_len (λ (m : Move). eqb m.from p)) (take_all (length ms - first) (drop first ms) (omega (arith, length-drop first ms))) ∙ ap (λ k. prefix_len (λ (m : Move). eqb m.from p) (drop k ms)) is ∙ run_counts p f ms s
