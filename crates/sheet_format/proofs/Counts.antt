-- Moves, each of which may follow those before it, are sorted and few from each position.
use Rattle.std.proofs.Common.{◌≡◌, ℕ, suc, ◌+◌, ◌<◌, ◌≤◌, Bool, true, false, cond, eqb, List, [], ◌∷◌, length, filter, refl, subst, arith}
use Rattle.std.proofs.lemmas.Bool.{eqb-true, eq-eqb}
use Rattle.std.specs.List.{AllByRecursion}
use Rattle.entries.specs.declared.Move.{Move}
use Rattle.entries.specs.declared.Position.{Position}
use Rattle.sheet_format.proofs.Moves.{Next}
use Rattle.sheet_format.proofs.Sections.{EachAfter}
use Rattle.sheet_format.specs.Lines.{count_from, last_from}
use Rattle.sheet_format.specs.WellFormed.{MoveFits, NeverFalling}

-- a move counted before or after
count_moved : (p : ℕ) (m : Move) (seen ms : List Move) → count_from p (m ∷ seen) + count_from p ms ≡ count_from p seen + count_from p (m ∷ ms)
count_moved p m seen ms = go (eqb m.from p)
  where
    go : (t : Bool) → length (cond t (m ∷ filter (λ k. eqb k.from p) seen) (filter (λ k. eqb k.from p) seen)) + count_from p ms ≡ count_from p seen + length (cond t (m ∷ filter (λ k. eqb k.from p) ms) (filter (λ k. eqb k.from p) ms))
    go true = omega arith
    go false = refl

count_here : (m : Move) (ms : List Move) → count_from m.from (m ∷ ms) ≡ suc (count_from m.from ms)
count_here m ms = rw (eq-eqb m.from m.from refl) refl

-- one more keeps to 64
count_more : (p : ℕ) (m : Move) (seen : List Move) → count_from m.from seen < 64 → count_from p seen ≤ 64 → count_from p (m ∷ seen) ≤ 64
count_more p m seen few h = go (eqb m.from p) refl
  where
    go : (t : Bool) → eqb m.from p ≡ t → length (cond t (m ∷ filter (λ k. eqb k.from p) seen) (filter (λ k. eqb k.from p) seen)) ≤ 64
    go true e = subst (λ q. count_from q seen < 64) (eqb-true m.from p e) few
    go false e = h

-- what the moves after seen are
pub record Sorted (ps : List Position) (seen ms : List Move) : Type 0 where
  pub each : AllByRecursion (MoveFits ps) ms
  pub rising : NeverFalling (last_from seen) ms
  pub few : (p : ℕ) → count_from p seen ≤ 64 → count_from p seen + count_from p ms ≤ 64

pub sorted_after : (ps : List Position) (seen ms : List Move) → EachAfter (Next ps) seen ms → Sorted ps seen ms
sorted_after ps seen [] h = record { each = tt; rising = tt; few = λ p k. omega arith }
sorted_after ps seen (m ∷ ms) h =
    let ih = sorted_after ps (m ∷ seen) ms h.1 in
    record {
      each = (h.0.fits, ih.each);
      rising = (h.0.rises, ih.rising);
      few = λ p k. omega (arith, count_moved p m seen ms, ih.few p (count_more p m seen h.0.few k));
    }

pub after_sorted : (ps : List Position) (seen ms : List Move) → AllByRecursion (MoveFits ps) ms → NeverFalling (last_from seen) ms → ((p : ℕ) → count_from p seen + count_from p ms ≤ 64) → EachAfter (Next ps) seen ms
after_sorted ps seen [] e r f = tt
after_sorted ps seen (m ∷ ms) e r f = (record { fits = e.0; rises = r.0; few = omega (arith, f m.from, count_here m ms) }, after_sorted ps (m ∷ seen) ms e.1 r.1 (λ p. omega (arith, f p, count_moved p m seen ms)))
