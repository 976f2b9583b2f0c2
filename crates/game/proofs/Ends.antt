-- The rounds come to an end.
use Rattle.std.proofs.Common.{◌≡◌, ℕ, zero, suc, ◌+◌, ◌<◌, ◌≤◌, Bool, true, false, ◌⊎◌, length, sym, refl, ap, ◌∙◌, subst, inl, inr, ⊎_elim, not-suc-le-zero, arith}
use mathlib.Core.Path.{fun_ext}
use native.Mathlib.Decide.{le_ind}
use Rattle.std.proofs.lemmas.Bool.{both_ways, cases_Bool, cases_lt, cases_order}
use Rattle.board.specs.Table.{Table, row_at}
use Rattle.cost.specs.Kind.{Kind}
use Rattle.cost.specs.Laws.{CostLaws}
use Rattle.orders.proofs.Pigeons.{count_below}
use Rattle.game.specs.Open.{is_open, open_positions}
use Rattle.game.specs.Rounds.{row_value, round, FixedPoint, NumberOfRounds}
use Rattle.game.specs.Values.{value_leq}
use Rattle.game.proofs.Chains.{Falls, falls_few}
use Rattle.game.proofs.Rounds.{never_rises, outside}
use Rattle.game.proofs.Values.{values}

all_or_one : (test : ℕ → Bool) (n : ℕ) → ((p : ℕ) → p < n → test p ≡ true) ⊎ ((p : ℕ) × (test p ≡ false))
all_or_one test zero = inl (λ p h. absurd (not-suc-le-zero h))
all_or_one test (suc n) = step (all_or_one test n)
  where
    step : ((p : ℕ) → p < n → test p ≡ true) ⊎ ((p : ℕ) × (test p ≡ false)) → ((p : ℕ) → p < suc n → test p ≡ true) ⊎ ((p : ℕ) × (test p ≡ false))
    step (inr one) = inr one
    step (inl all) =
        ⊎_elim (λ (here : test n ≡ true). inl (λ p h. ⊎_elim (λ (l : p < n). all p l) (λ (l : n ≤ p). subst (λ q. test q ≡ true) (omega arith) here) (cases_lt p n)))
        (λ (here : test n ≡ false). inr (n, here)) (cases_Bool (test n))

module _ {C : Type 0} (k : Kind C) (laws : CostLaws k) (t : Table) where
  pub stays : (n p : ℕ) → value_leq k (round k t n p) (round k t (suc n) p) ≡ true → round k t (suc n) p ≡ round k t n p
  stays n p h = (values k laws).antisymmetric _ _ (never_rises k laws t n p) h

  pub fixed_or_falls : (n : ℕ) → FixedPoint k t n ⊎ ((p : ℕ) × Falls k t n p)
  fixed_or_falls n =
      ⊎_elim
      (λ all. inl (λ p. ⊎_elim (λ (h : p < length t.rows). stays n p (all p h)) (λ (h : length t.rows ≤ p). outside k laws t (suc n) p h ∙ sym (outside k laws t n p h)) (cases_lt p (length t.rows))))
      inr (all_or_one (λ p. value_leq k (round k t n p) (round k t (suc n) p)) (length t.rows))

  pub changed_falls : (n p : ℕ) → (round k t (suc n) p ≡ round k t n p → ⊥) → Falls k t n p
  changed_falls n p h = ⊎_elim (λ e. absurd (h (stays n p e))) (λ e. e) (cases_Bool (value_leq k (round k t n p) (round k t (suc n) p)))

  fixed_not_falls : (n p : ℕ) → FixedPoint k t n → Falls k t n p → ⊥
  fixed_not_falls n p fixed h = both_ways _ h (subst (λ v. value_leq k (round k t n p) v ≡ true) (sym (fixed p)) ((values k laws).reflexive _))

  find : (m n : ℕ) → m + n ≡ length t.rows → ((i : ℕ) → i < n → FixedPoint k t i → ⊥) → (i : ℕ) × NumberOfRounds k t i
  find zero n e before =
      ⊎_elim (λ (fixed : FixedPoint k t n). (n, record { fixed = fixed; least = before }))
      (λ f. absurd (too_many f)) (fixed_or_falls n)
    where
      too_many : (p : ℕ) × Falls k t n p → ⊥
      too_many f = omega (arith, falls_few k laws t n f.0 f.1, count_below (is_open t (round k t (suc n))) (length t.rows))
  find (suc m) n e before = step (find m (suc n) (omega arith))
    where
      step : (((i : ℕ) → i < suc n → FixedPoint k t i → ⊥) → (i : ℕ) × NumberOfRounds k t i) → (i : ℕ) × NumberOfRounds k t i
      step further =
          ⊎_elim (λ (fixed : FixedPoint k t n). (n, record { fixed = fixed; least = before }))
          (λ f. further (λ i h fixed. ⊎_elim (λ (l : i < n). before i l fixed) (λ (l : n ≤ i). fixed_not_falls n f.0 (subst (FixedPoint k t) (omega arith) fixed) f.1) (cases_lt i n)))
          (fixed_or_falls n)

  -- what does not change in one round changes in none after it
  pub fixed_later : (m n p : ℕ) → FixedPoint k t m → m ≤ n → round k t n p ≡ round k t m p
  unfolding round
  fixed_later m n p fixed h =
      le_ind (λ i. (q : ℕ) → round k t i q ≡ round k t m q) (λ q. refl) (λ i _ same q. ap (λ w. row_value k w (row_at t q)) (fun_ext same) ∙ fixed q) n h p

  pub number_found : (n : ℕ) × NumberOfRounds k t n
  number_found = find (length t.rows) 0 (omega arith) (λ i h. absurd (not-suc-le-zero h))

  pub number_one : (m n : ℕ) → NumberOfRounds k t m → NumberOfRounds k t n → m ≡ n
  number_one m n a b =
      ⊎_elim (λ (e : m ≡ n). e) (⊎_elim (λ (h : m < n). absurd (b.least m h a.fixed)) (λ (h : n < m). absurd (a.least n h b.fixed))) (cases_order m n)

  pub number_few : (n : ℕ) → NumberOfRounds k t n → n ≤ open_positions t (round k t n)
  number_few zero a = omega arith
  number_few (suc n) a = ⊎_elim (λ (fixed : FixedPoint k t n). absurd (a.least n (omega arith) fixed)) (λ f. falls_few k laws t n f.0 f.1) (fixed_or_falls n)
