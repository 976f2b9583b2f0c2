-- Move lines, each after those before it.
use Rattle.std.proofs.Common.{◌≡◌, ℕ, ◌<◌, ◌≤◌, Bool, true, false, cond, ◌&&◌, eqb, ltb, leb, List, [], ◌∷◌, length, get_or, Ok, sym, refl, ap, arith}
use Rattle.std.proofs.lemmas.Bool.{le-ltb, lt-leb, ltb-false, leb-false, eqb-true, true≢false}
use Rattle.board.specs.declared.parts.Turn.{Turn}
use Rattle.board.specs.declared.parts.Turn.TheVariants.{Arm, Person}
use Rattle.entries.specs.declared.Move.{Move}
use Rattle.entries.specs.declared.Position.{Position}
use Rattle.sheet_format.proofs.Fields.{row_again}
use Rattle.sheet_format.proofs.LineKinds.{Lawful, lawful_as, RowKind, Checks, kind_lawful}
use Rattle.sheet_format.proofs.Results.{ok_along, cond_past}
use Rattle.sheet_format.specs.Fields.{RowFits}
use Rattle.sheet_format.specs.Lines.{absent_position, count_from, is_person, last_from, move_checks, move_fields, move_line, move_of, person_pays}
use Rattle.sheet_format.specs.Spelling.{move_words}
use Rattle.sheet_format.specs.WellFormed.{MoveFits}

abbrev move_row : Move → List ℕ
move_row m = m.from ∷ m.to ∷ m.bruise ∷ m.energy ∷ []

move_kind : (n : ℕ) → n ≤ 10000000000 → RowKind (move_fields n) move_of move_row move_words
move_kind n h = record { proper = (h, (h, (omega arith, (omega arith, tt)))); some = omega arith; value_back = λ m. refl; row_back = row_again (move_fields n); spelt = λ m. refl }

-- a person's move is free
free_forth : (t : Turn) (b e : ℕ) → (t ≡ Person → (b ≡ 0) × (e ≡ 0)) → (is_person t && cond (eqb b 0) (ltb 0 e) true) ≡ false
free_forth Arm b e h = refl
free_forth Person b e h = rw ((h refl).0, (h refl).1) refl

free_cost : (t : Bool) (b e : ℕ) → eqb b 0 ≡ t → cond t (ltb 0 e) true ≡ false → (b ≡ 0) × (e ≡ 0)
free_cost true b e q h = (eqb-true b 0 q, omega (arith, ltb-false 0 e h))
free_cost false b e q h = absurd (true≢false h)

free_back : (t : Turn) (b e : ℕ) → (is_person t && cond (eqb b 0) (ltb 0 e) true) ≡ false → t ≡ Person → (b ≡ 0) × (e ≡ 0)
free_back Arm b e h p = absurd (true≢false (ap is_person (sym p)))
free_back Person b e h p = free_cost (eqb b 0) b e refl h

-- the checks of a move after those before it
pub record Follows (ps : List Position) (seen : List Move) (m : Move) : Type 0 where
  pub rises : last_from seen ≤ m.from
  pub few : count_from m.from seen < 64
  pub free : (get_or ps m.from absent_position).turn ≡ Person → (m.bruise ≡ 0) × (m.energy ≡ 0)

checks_back : (ps : List Position) (seen : List Move) (m n : Move) → move_checks ps seen m ≡ Ok n → Follows ps seen m × (m ≡ n)
checks_back ps seen m n e =
    let a = cond_past (ltb m.from (last_from seen)) _ _ n e in
    let b = cond_past (leb 64 (count_from m.from seen)) _ _ n a.1 in
    let c = cond_past (person_pays ps m) _ _ n b.1 in
    (record { rises = ltb-false m.from (last_from seen) a.0; few = leb-false 64 (count_from m.from seen) b.0; free = free_back (get_or ps m.from absent_position).turn m.bruise m.energy c.0 }, ok_along (λ k. m ≡ k) m n c.1 refl)

follow_checks : (ps : List Position) (seen : List Move) → Checks (move_checks ps seen) (Follows ps seen)
follow_checks ps seen = record {
  forth = λ m h. rw (le-ltb m.from (last_from seen) h.rises, lt-leb 64 (count_from m.from seen) h.few, free_forth (get_or ps m.from absent_position).turn m.bruise m.energy h.free) refl;
  back = checks_back ps seen;
}

-- a move that fits, after those before it
pub record Next (ps : List Position) (seen : List Move) (m : Move) : Type 0 where
  pub fits : MoveFits ps m
  pub rises : last_from seen ≤ m.from
  pub few : count_from m.from seen < 64

pub move_lawful : (ps : List Position) → length ps ≤ 10000000000 → (seen : List Move) → Lawful (move_line ps seen) move_words (Next ps seen)
move_lawful ps h seen = lawful_as (kind_lawful 1 (move_fields (length ps)) move_of move_row move_words (move_kind (length ps) h) (move_checks ps seen) (Follows ps seen) (follow_checks ps seen)) (Next ps seen) there back
  where
    there : (m : Move) → Next ps seen m → RowFits (move_fields (length ps)) (move_row m) × Follows ps seen m
    there m k = ((k.fits.from, (k.fits.to, ((omega arith, k.fits.bruise), ((omega arith, k.fits.energy), tt)))), record { rises = k.rises; few = k.few; free = k.fits.free })

    back : (m : Move) → RowFits (move_fields (length ps)) (move_row m) × Follows ps seen m → Next ps seen m
    back m k = record { fits = record { from = k.0.0; to = k.0.1.0; bruise = k.0.1.1.0.1; energy = k.0.1.1.1.0.1; free = k.1.free }; rises = k.1.rises; few = k.1.few }
