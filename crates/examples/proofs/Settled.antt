-- The number of rounds, worked out.
use Rattle.std.proofs.Common.{◌≡◌, ℕ, zero, suc, ◌+◌, ◌<◌, ◌≤◌, Bool, true, false, ◌&&◌, length, sym, refl, ◌∙◌, subst, ⊎_elim, not-suc-le-zero, arith}
use Rattle.std.proofs.lemmas.Bool.{both_ways, and_from, and_parts, cases_lt}
use Rattle.board.specs.Table.{Table}
use Rattle.cost.specs.Kind.{Kind}
use Rattle.cost.specs.Laws.{CostLaws}
use Rattle.game.proofs.Ends.{stays, number_found, number_few}
use Rattle.game.proofs.Rounds.{outside}
use Rattle.game.proofs.Values.{values}
use Rattle.game.specs.Open.{is_open}
use Rattle.game.specs.Rounds.{round, FixedPoint, NumberOfRounds}
use Rattle.game.specs.Values.{value_leq}
use Rattle.orders.proofs.Pigeons.{count_below}

-- n where the test passed, else what is found from the next number on
abbrev pub or_later : Bool → ℕ → (ℕ → ℕ) → ℕ
or_later true n from = n
or_later false n from = from (suc n)

module _ {C : Type 0} (k : Kind C) (t : Table) where
  -- none of the first positions falls in round m + 1
  abbrev pub none_falls : ℕ → ℕ → Bool
  none_falls m zero = true
  none_falls m (suc p) = value_leq k (round k t m p) (round k t (suc m) p) && none_falls m p

  -- round m + 1 changes nothing
  abbrev pub settled : ℕ → Bool
  settled m = none_falls m (length t.rows)

  -- the first settled round from n on, at most so many rounds later
  abbrev pub first_settled : ℕ → ℕ → ℕ
  first_settled zero n = n
  first_settled (suc more) n = or_later (settled n) n (first_settled more)

  -- the number of rounds is at most that of the positions
  abbrev pub rounds_of : ℕ
  rounds_of = first_settled (length t.rows) 0

  module _ (laws : CostLaws k) where
    kept : (m n : ℕ) → none_falls m n ≡ true → (p : ℕ) → p < n → value_leq k (round k t m p) (round k t (suc m) p) ≡ true
    kept m zero e p h = absurd (not-suc-le-zero h)
    kept m (suc n) e p h =
        let parts = and_parts (value_leq k (round k t m n) (round k t (suc m) n)) (none_falls m n) e in
        ⊎_elim (λ (l : p < n). kept m n parts.1 p l) (λ (l : n ≤ p). subst (λ q. value_leq k (round k t m q) (round k t (suc m) q) ≡ true) (omega arith) parts.0) (cases_lt p n)

    settled_fixed : (m : ℕ) → settled m ≡ true → FixedPoint k t m
    settled_fixed m e p =
        ⊎_elim (λ (h : p < length t.rows). stays k laws t m p (kept m (length t.rows) e p h))
        (λ (h : length t.rows ≤ p). outside k laws t (suc m) p h ∙ sym (outside k laws t m p h)) (cases_lt p (length t.rows))

    fixed_settled : (m n : ℕ) → FixedPoint k t m → none_falls m n ≡ true
    fixed_settled m zero fixed = refl
    fixed_settled m (suc n) fixed =
        and_from _ _ (subst (λ v. value_leq k (round k t m n) v ≡ true) (sym (fixed n)) ((values k laws).reflexive _)) (fixed_settled m n fixed)

    -- from no later than the number of rounds on, it is found
    found : (number : ℕ) → NumberOfRounds k t number → (more n : ℕ) → n ≤ number → number ≤ n + more → first_settled more n ≡ number
    found number is zero n low high = omega arith
    found number is (suc more) n low high = go (settled n) refl (found number is more (suc n))
      where
        go : (b : Bool) → settled n ≡ b → (suc n ≤ number → number ≤ suc n + more → first_settled more (suc n) ≡ number) → or_later b n (first_settled more) ≡ number
        go true e later = ⊎_elim (λ (h : n < number). absurd (is.least n h (settled_fixed n e))) (λ (h : number ≤ n). omega arith) (cases_lt n number)
        go false e later =
            ⊎_elim (λ (h : n < number). later h (omega arith))
            (λ (h : number ≤ n). absurd (both_ways (settled n) e (fixed_settled n (length t.rows) (subst (FixedPoint k t) (omega arith) is.fixed)))) (cases_lt n number)

    pub rounds_are : NumberOfRounds k t rounds_of
    rounds_are =
        let number = (number_found k laws t).0 in
        let is = (number_found k laws t).1 in
        let few : number ≤ 0 + length t.rows = omega (arith, number_few k laws t number is, count_below (is_open t (round k t number)) (length t.rows)) in
        subst (NumberOfRounds k t) (sym (found number is (length t.rows) 0 (omega arith) few)) is
