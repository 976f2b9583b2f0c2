-- The first arrow that fits, and the automaton of arrows that stay inside.
use Rattle.std.proofs.Common.{◌≡◌, ℕ, zero, suc, ◌<◌, max, Bool, true, false, cond, ◌&&◌, eqb, ltb, List, [], ◌∷◌, length, get_or, Option, Some, None, Decides, sym, refl, ap, ◌∙◌, subst, ap₂, le_of_suc-le-suc, not-suc-le-zero, arith}
use lib.Bits.{bit_and}
use Rattle.std.specs.List.{find}
use Rattle.std.specs.Option.{option_map, option_map_or, MatchOption}
use Rattle.std.proofs.lemmas.Bool.{cond-true, cond-false, lt-ltb}
use Rattle.std.proofs.lemmas.Bool.Decides.{Decides-eqb, Decides-and, Decides-like}
use Rattle.entries.specs.declared.Arrow.{Arrow}
use Rattle.automaton.specs.Arrows.{arrow_fits, next_state}
use Rattle.automaton.specs.Follows.{Fits, Follows, Whole, IsAutomaton, arrow_at}
use Rattle.automaton.specs.Means.{size_of, next_within, bounded_dfa}
use Rattle.automaton.proofs.Bitwise.{covers, covers_back, apart, apart_back}

pub decides_fits : (a : Arrow) (z label : ℕ) → Decides (arrow_fits a z label) (Fits a z label)
decides_fits a z label =
    Decides-like (arrow_fits a z label)
    (λ h. record { leaves = h.0; needed = covers label a.need h.1.0; barred = apart label a.bar h.1.1 })
    (λ f. (f.leaves, (covers_back a.need label f.needed, apart_back a.bar label f.barred)))
    (Decides-and (eqb a.from z) (eqb (bit_and label a.need) a.need && eqb (bit_and label a.bar) 0) (Decides-eqb a.from z)
    (Decides-and (eqb (bit_and label a.need) a.need) (eqb (bit_and label a.bar) 0) (Decides-eqb (bit_and label a.need) a.need) (Decides-eqb (bit_and label a.bar) 0)))

misses : (a : Arrow) (z label : ℕ) → (Fits a z label → ⊥) → arrow_fits a z label ≡ false
misses a z label h = other (arrow_fits a z label) refl
  where
    other : (b : Bool) → arrow_fits a z label ≡ b → arrow_fits a z label ≡ false
    other true e = absurd (h ((decides_fits a z label).0 e))
    other false e = e

by_arrow : (arrows : List Arrow) (z label i : ℕ) → i < length arrows → Fits (arrow_at arrows i) z label
    → ((j : ℕ) → j < i → Fits (arrow_at arrows j) z label → ⊥) → next_state arrows z label ≡ (arrow_at arrows i).to
by_arrow [] z label i h fit earlier = absurd (not-suc-le-zero h)
by_arrow (a ∷ rest) z label zero h fit earlier =
    cond-true (arrow_fits a z label) a.to (next_state rest z label) ((decides_fits a z label).1 fit)
by_arrow (a ∷ rest) z label (suc i) h fit earlier =
    cond-false (arrow_fits a z label) a.to (next_state rest z label) (misses a z label (earlier 0 (omega arith)))
    ∙ by_arrow rest z label i (le_of_suc-le-suc h) fit (λ j k. earlier (suc j) (omega arith))

stays : (arrows : List Arrow) (z label : ℕ) → ((i : ℕ) → i < length arrows → Fits (arrow_at arrows i) z label → ⊥) → next_state arrows z label ≡ z
stays [] z label none = refl
stays (a ∷ rest) z label none =
    cond-false (arrow_fits a z label) a.to (next_state rest z label) (misses a z label (none 0 (omega arith)))
    ∙ stays rest z label (λ i h. none (suc i) (omega arith))

pub follows : (arrows : List Arrow) (z label : ℕ) → Follows arrows z label (next_state arrows z label)
follows arrows z label = record { by_arrow = by_arrow arrows z label; stays = stays arrows z label }

-- arrows that lead to one of n states are never passed over
within_is : (n : ℕ) (arrows : List Arrow) → ((i : ℕ) → i < length arrows → (arrow_at arrows i).to < n)
    → (z label : ℕ) → next_within n arrows z label ≡ next_state arrows z label
within_is n [] inside z label = refl
within_is n (a ∷ rest) inside z label =
    ap₂ (λ b x. cond b a.to x) (kept (arrow_fits a z label) (lt-ltb a.to n (inside 0 (omega arith))))
    (within_is n rest (λ i h. inside (suc i) (omega arith)) z label)
  where
    kept : (b : Bool) → ltb a.to n ≡ true → (b && ltb a.to n) ≡ b
    kept true e = e
    kept false e = refl

pub made : (states : List Bool) (arrows : List Arrow) → Whole states arrows → IsAutomaton states arrows (bounded_dfa states arrows)
made states arrows whole =
    let size : size_of states ≡ max 1 (length states) = omega (arith, whole.few) in
    let reach : (z label : ℕ) → next_within (size_of states) arrows z label ≡ next_state arrows z label =
    within_is (size_of states) arrows (λ i h. omega (arith, whole.few, (whole.inside i h).1)) in
    record {
      whole = whole;
      same = λ i. record {
        states = size i;
        first = 0;
        next = λ z label. reach z label i;
        accepting = λ z. get_or states z true;
      };
      follows = λ z label. subst (Follows arrows z label) (sym (reach z label)) (follows arrows z label);
    }

lead : (b : Bool) (a : Arrow) (x z : ℕ) (o : Option Arrow) → x ≡ option_map_or (λ (r : Arrow). r.to) o z → cond b a.to x ≡ option_map_or (λ (r : Arrow). r.to) (cond b (Some a) o) z
lead true a x z o e = refl
lead false a x z o e = e

-- the state after a label is where the first arrow leads that fits and leads inside
next_found : (n : ℕ) (arrows : List Arrow) (z label : ℕ) → next_within n arrows z label ≡ option_map_or (λ (a : Arrow). a.to) (find (λ (a : Arrow). arrow_fits a z label && ltb a.to n) arrows) z
next_found n [] z label = refl
next_found n (a ∷ rest) z label = lead (arrow_fits a z label && ltb a.to n) a (next_within n rest z label) z (find (λ (r : Arrow). arrow_fits r z label && ltb r.to n) rest) (next_found n rest z label)

pub next_is : {R : Type 0} (v : R → Arrow) (n : ℕ) (arrows : List Arrow) (z label x : ℕ) (o : Option R)
    → option_map v o ≡ find (λ (a : Arrow). arrow_fits a z label && ltb a.to n) arrows → MatchOption o (x ≡ z) (λ r. x ≡ (v r).to) → x ≡ next_within n arrows z label
next_is v n arrows z label x None e m = m ∙ ap (λ q. option_map_or (λ (a : Arrow). a.to) q z) e ∙ sym (next_found n arrows z label)
next_is v n arrows z label x (Some r) e m = m ∙ ap (λ q. option_map_or (λ (a : Arrow). a.to) q z) e ∙ sym (next_found n arrows z label)
