-- The moves before a line, in the order of the sheet and the last first.
use Rattle.std.proofs.Common.{◌≡◌, ℕ, Bool, eqb, List, [], ◌∷◌, reverse, length, filter, Ok, Err, Result, sym, refl, ap, ◌∙◌, arith, length-append}
use mathlib.Core.List.{reverse-append}
use Rattle.std.specs.List.{count_by}
use Rattle.std.proofs.lemmas.List.Elements.{filter-append}
use Rattle.std.proofs.lemmas.List.Sums.{length-filter}
use Rattle.entries.specs.declared.Move.{Move}
use Rattle.entries.specs.declared.Position.{Position}
use Rattle.sheet_format.specs.declared.LineFault.{LineFault}
use Rattle.sheet_format.specs.Fields.{on_ok, read_fields}
use Rattle.sheet_format.specs.Lines.{count_from, move_fields, move_of, move_checks, move_line}

pub count_reverse : {X : Type 0} (p : X → Bool) (xs : List X) → length (filter p (reverse xs)) ≡ length (filter p xs)
count_reverse p [] = refl
count_reverse p (x ∷ xs) =
    ap (λ l. length (filter p l)) (reverse-append (x ∷ []) xs) ∙ ap length (filter-append p (reverse xs) (x ∷ [])) ∙ length-append (filter p (reverse xs)) (filter p (x ∷ [])) ∙ omega (arith, count_reverse p xs, ap length (filter-append p (x ∷ []) xs), length-append (filter p (x ∷ [])) (filter p xs))

pub count_from_reverse : (p : ℕ) (ms : List Move) → count_by (λ m. eqb m.from p) ms ≡ count_from p (reverse ms)
count_from_reverse p ms = sym (count_reverse (λ (m : Move). eqb m.from p) ms ∙ length-filter (λ (m : Move). eqb m.from p) ms)

-- a move line, read and then checked
module _ (ps : List Position) (seen : List Move) (ws : List (List ℕ)) where
  pub checked_line : (m : Move) → Ok m ≡ on_ok (read_fields 1 (move_fields (length ps)) ws) (λ r. Ok (move_of r)) → move_checks ps seen m ≡ move_line ps seen ws
  checked_line m e = go (read_fields 1 (move_fields (length ps)) ws) e
    where
      go : (r : Result (List ℕ) LineFault) → Ok m ≡ on_ok r (λ x. Ok (move_of x)) → move_checks ps seen m ≡ on_ok r (λ x. move_checks ps seen (move_of x))
      go (Ok a) e = let same : m ≡ move_of a = cc in ap (move_checks ps seen) same
      go (Err x) e = cc

  pub refused_line : (x : LineFault) → Err x ≡ on_ok (read_fields 1 (move_fields (length ps)) ws) (λ r. Ok (move_of r)) → Err x ≡ move_line ps seen ws
  refused_line x e = go (read_fields 1 (move_fields (length ps)) ws) e
    where
      go : (r : Result (List ℕ) LineFault) → Err x ≡ on_ok r (λ y. Ok (move_of y)) → Err x ≡ on_ok r (λ y. move_checks ps seen (move_of y))
      go (Ok a) e = cc
      go (Err y) e = e
