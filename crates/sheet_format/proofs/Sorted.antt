-- In a list of moves that never falls, the moves from one position stand side by side.
use Rattle.std.proofs.Common.{◌≡◌, ℕ, ◌<◌, ◌≤◌, eqb, List, [], ◌∷◌, take, drop, filter, refl, ap, ⊎_elim, arith}
use Rattle.std.proofs.lemmas.Bool.{cases_order, eq-eqb, ne_eqb, lt-ltb, le-ltb}
use Rattle.entries.specs.declared.Move.{Move}
use Rattle.sheet_format.specs.Boards.{count_before}
use Rattle.sheet_format.specs.Lines.{count_from}
use Rattle.sheet_format.specs.WellFormed.{NeverFalling}

abbrev pub moves_from : ℕ → List Move → List Move
moves_from p ms = filter (λ m. eqb m.from p) ms

-- no move starts below f
pub none_from : (p f : ℕ) (ms : List Move) → p < f → NeverFalling f ms → moves_from p ms ≡ []
none_from p f [] h s = refl
none_from p f (m ∷ ms) h s = rw (ne_eqb m.from p (λ e. omega (arith, s.0))) (none_from p m.from ms (omega (arith, s.0)) s.1)

pub none_before : (p f : ℕ) (ms : List Move) → p ≤ f → NeverFalling f ms → count_before p ms ≡ 0
none_before p f [] h s = refl
none_before p f (m ∷ ms) h s = rw (le-ltb m.from p (omega (arith, s.0))) (none_before p m.from ms (omega (arith, s.0)) s.1)

slice_more : (p : ℕ) (m : Move) (ms : List Move) → NeverFalling m.from ms → take (count_from p ms) (drop (count_before p ms) ms) ≡ moves_from p ms → take (count_from p (m ∷ ms)) (drop (count_before p (m ∷ ms)) (m ∷ ms)) ≡ moves_from p (m ∷ ms)
slice_more p m ms s ih = ⊎_elim here (⊎_elim before after) (cases_order m.from p)
  where
    here : m.from ≡ p → take (count_from p (m ∷ ms)) (drop (count_before p (m ∷ ms)) (m ∷ ms)) ≡ moves_from p (m ∷ ms)
    here e =
        let first = none_before p m.from ms (omega arith) s in
        rw (eq-eqb m.from p e, le-ltb m.from p (omega arith), first) (ap (λ xs. m ∷ xs) (rw first at ih))

    before : m.from < p → take (count_from p (m ∷ ms)) (drop (count_before p (m ∷ ms)) (m ∷ ms)) ≡ moves_from p (m ∷ ms)
    before l = rw (ne_eqb m.from p (λ e. omega arith), lt-ltb m.from p l) ih

    after : p < m.from → take (count_from p (m ∷ ms)) (drop (count_before p (m ∷ ms)) (m ∷ ms)) ≡ moves_from p (m ∷ ms)
    after g = rw (ne_eqb m.from p (λ e. omega arith), none_from p m.from ms g s) refl

-- the moves from p follow those that start before p
pub slice_from : (p f : ℕ) (ms : List Move) → NeverFalling f ms → take (count_from p ms) (drop (count_before p ms) ms) ≡ moves_from p ms
slice_from p f [] s = refl
slice_from p f (m ∷ ms) s = slice_more p m ms s.1 (slice_from p m.from ms s.1)
