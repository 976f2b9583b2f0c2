-- The best of the values so far, with the lowest place that has it, is the best of the row and its lowest move.
use Rattle.std.proofs.Common.{◌≡◌, ℕ, suc, ◌+◌, ◌<◌, ◌≤◌, Bool, true, false, not, List, [], ◌∷◌, map, length, get_or, Some, None, Option, sym, refl, ap, ◌∙◌, subst, ⊎_elim, not-suc-le-zero, arith}
use Rattle.std.proofs.lemmas.Bool.{both_ways, cases_lt, cases_order, cond_both}
use Rattle.board.specs.Table.{Row, move_at, absent_move}
use Rattle.board.specs.declared.parts.Step.{Step}
use Rattle.board.specs.declared.parts.Turn.{Turn}
use Rattle.board.specs.declared.parts.Turn.TheVariants.{Arm, Person}
use Rattle.cost.specs.Kind.{Kind}
use Rattle.cost.specs.Laws.{Order, CostLaws}
use Rattle.orders.specs.Extremes.{least, greatest}
use Rattle.orders.specs.Lowest.{lowest}
use Rattle.orders.proofs.Extremes.{Place, above, above_left, least_at, greatest_at, greatest_in}
use Rattle.orders.proofs.Lowest.{Found, lowest_found}
use Rattle.game.specs.Rounds.{value_through, best}
use Rattle.game.proofs.Values.{values, none_high}
use Rattle.cells.specs.Leads.{turn_leq, Leads}

was_false : (b : Bool) → not b ≡ true → b ≡ false
was_false true e = sym e
was_false false e = refl

was_true : (b : Bool) → not b ≡ false → b ≡ true
was_true true e = refl
was_true false e = sym e

-- v is the value at i, no worse than any of the first n, and better than all before i
pub record Leading {V : Type 0} (leq : V → V → Bool) (f : ℕ → V) (n : ℕ) (v : V) (i : ℕ) : Type 0 where
  pub inside : i < n
  pub is : f i ≡ v
  pub none_better : (j : ℕ) → j < n → leq v (f j) ≡ true
  pub first : (j : ℕ) → j < i → leq (f j) v ≡ false

module _ {V : Type 0} {leq : V → V → Bool} (o : Order leq) (f : ℕ → V) where
  -- no worse than the first n, and than the next
  one_more : (n : ℕ) (v w : V) → f n ≡ w → ((j : ℕ) → j < n → leq v (f j) ≡ true) → leq v w ≡ true → (j : ℕ) → j < n + 1 → leq v (f j) ≡ true
  one_more n v w at all next j h =
      ⊎_elim (λ (l : j < n). all j l) (λ (l : n ≤ j). let same : n ≡ j = omega arith in subst (λ x. leq v x ≡ true) (sym at ∙ ap f same) next) (cases_lt j n)

  pub leads_first : (v : V) → f 0 ≡ v → Leading leq f 1 v 0
  leads_first v at = record {
    inside = omega arith;
    is = at;
    none_better = one_more 0 v v at (λ j h. absurd (not-suc-le-zero h)) (o.reflexive v);
    first = λ j h. absurd (not-suc-le-zero h);
  }

  -- the next is better
  pub leads_next : (n i : ℕ) (v w : V) → Leading leq f n v i → f n ≡ w → leq v w ≡ false → Leading leq f (n + 1) w n
  leads_next n i v w l at worse = record {
    inside = omega arith;
    is = at;
    none_better = one_more n w w at (λ j h. o.transitive w v (f j) (above o v w worse) (l.none_better j h)) (o.reflexive w);
    first = λ j h. above_left o v (f j) w worse (l.none_better j h);
  }

  -- the next is no better
  pub leads_still : (n i : ℕ) (v w : V) → Leading leq f n v i → f n ≡ w → leq v w ≡ true → Leading leq f (n + 1) v i
  leads_still n i v w l at still = record {
    inside = omega (arith, l.inside);
    is = l.is;
    none_better = one_more n v w at l.none_better still;
    first = l.first;
  }

  -- the same of a best that is named anew, as a loop does
  pub leads_better : (n i : ℕ) (v w : V) → Leading leq f n v i → f n ≡ w → not (leq v w) ≡ true → (x : V) (j : ℕ) → x ≡ w → j ≡ n → Leading leq f (n + 1) x j
  leads_better n i v w l at worse x j e d = subst (λ (y : V). Leading leq f (n + 1) y j) (sym e) (subst (λ (m : ℕ). Leading leq f (n + 1) w m) (sym d) (leads_next n i v w l at (was_false _ worse)))

  pub leads_kept : (n i : ℕ) (v w : V) → Leading leq f n v i → f n ≡ w → not (leq v w) ≡ false → (x : V) (j : ℕ) → x ≡ v → j ≡ i → Leading leq f (n + 1) x j
  leads_kept n i v w l at still x j e d = subst (λ (y : V). Leading leq f (n + 1) y j) (sym e) (subst (λ (m : ℕ). Leading leq f (n + 1) v m) (sym d) (leads_still n i v w l at (was_true _ still)))

-- the lowest place is the one that passes, if none before it does
lowest_exact : {X : Type 0} (d : X) (test : X → Bool) (xs : List X) (i : ℕ) → i < length xs → test (get_or xs i d) ≡ true → ((j : ℕ) → j < i → test (get_or xs j d) ≡ false)
    → lowest test xs ≡ Some i
lowest_exact d test xs i h e before = go (lowest_found d test xs i h e)
  where
    go : (j : ℕ) × (lowest test xs ≡ Some j) × Found d test xs j → lowest test xs ≡ Some i
    go (j, is, f) =
        is ∙ ap Some (⊎_elim (λ (s : j ≡ i). s) (⊎_elim (λ (l : j < i). absurd (both_ways _ (before j l) f.passes)) (λ (l : i < j). absurd (both_ways _ (f.first i l) e))) (cases_order j i))

module _ {V X : Type 0} {leq : V → V → Bool} (o : Order leq) (d : X) (top : V) (g : X → V) where
  -- what is not above the top and not above any item is not above the least
  below_least : (v : V) → leq v top ≡ true → (xs : List X) → ((j : ℕ) → j < length xs → leq v (g (get_or xs j d)) ≡ true) → leq v (least leq top (map g xs)) ≡ true
  below_least v h [] all = h
  below_least v h (x ∷ xs) all = step (below_least v h xs (λ j l. all (suc j) (omega arith)))
    where
      step : leq v (least leq top (map g xs)) ≡ true → leq v (least leq top (map g (x ∷ xs))) ≡ true
      step rest = cond_both (leq (g x) (least leq top (map g xs))) (g x) (least leq top (map g xs)) (λ u. leq v u ≡ true) (λ e. all 0 (omega arith)) (λ e. rest)

  pub leading_least : (xs : List X) (v : V) (i : ℕ) → leq v top ≡ true → Leading leq (λ j. g (get_or xs j d)) (length xs) v i → v ≡ least leq top (map g xs)
  leading_least xs v i h l =
      o.antisymmetric _ _ (below_least v h xs l.none_better) (subst (λ u. leq (least leq top (map g xs)) u ≡ true) l.is (least_at o d top g xs i l.inside))

  pub leading_greatest : (xs : List X) (v : V) (i : ℕ) → Leading (λ x y. leq y x) (λ j. g (get_or xs j d)) (length xs) v i → v ≡ greatest leq top (map g xs)
  leading_greatest [] v i l = absurd (not-suc-le-zero l.inside)
  leading_greatest (x ∷ xs) v i l = go (greatest_in o d top g x xs)
    where
      go : Place d (x ∷ xs) (λ y. leq (greatest leq top (map g (x ∷ xs))) (g y) ≡ true) → v ≡ greatest leq top (map g (x ∷ xs))
      go p =
          o.antisymmetric _ _ (subst (λ u. leq u (greatest leq top (map g (x ∷ xs))) ≡ true) l.is (greatest_at o d top g (x ∷ xs) i l.inside))
          (o.transitive _ _ _ p.fits (l.none_better p.index p.there))

module _ {C : Type 0} (k : Kind C) (laws : CostLaws k) where
  pub turn_order : (turn : Turn) → Order (turn_leq k turn)
  unfolding turn_leq
  turn_order Arm = values k laws
  turn_order Person = record {
    reflexive = (values k laws).reflexive;
    transitive = λ x y z a b. (values k laws).transitive z y x b a;
    antisymmetric = λ x y a b. (values k laws).antisymmetric x y b a;
    total = λ x y. (values k laws).total y x;
  }

  leading_best : (turn : Turn) (g : Step → Option C) (xs : List Step) (v : Option C) (i : ℕ) → Leading (turn_leq k turn) (λ j. g (get_or xs j absent_move)) (length xs) v i → v ≡ best k turn (map g xs)
  unfolding turn_leq
  leading_best Arm g xs v i l = leading_least (values k laws) absent_move None g xs v i (none_high k laws v) l
  leading_best Person g xs v i l = leading_greatest (values k laws) absent_move None g xs v i l

  -- what leads among all moves of a row
  pub leads_all : (w : ℕ → Option C) (r : Row) (v : Option C) (i : ℕ) → Leading (turn_leq k r.turn) (λ m. value_through k w (move_at r m)) (length r.moves) v i
      → Leads k w r (record { value = v; choice = Some i })
  leads_all w r v i l = record {
    value = leading_best r.turn (value_through k w) r.moves v i l;
    choice = sym (lowest_exact absent_move (λ s. turn_leq k r.turn (value_through k w s) v) r.moves i l.inside
        (subst (λ u. turn_leq k r.turn u v ≡ true) (sym l.is) ((turn_order r.turn).reflexive v)) l.first);
  }

  none_best : (turn : Turn) → ◌≡◌ {A = Option C} None (best k turn [])
  none_best Arm = refl
  none_best Person = refl
