-- The moves of a play by the plan lead under the position that they leave.
use Rattle.std.proofs.Common.{◌≡◌, ℕ, zero, suc, ◌<◌, ◌≤◌, true, map, Some, None, Option, sym, refl, ap, ◌∙◌, subst, ⊎_elim, arith}
use Rattle.std.proofs.lemmas.Bool.{both_ways, cases_lt}
use Rattle.board.specs.Table.{Table, row_at, absent_move}
use Rattle.board.specs.declared.parts.Turn.TheVariants.{Arm, Person}
use Rattle.cost.specs.Kind.{Kind}
use Rattle.cost.specs.Laws.{CostLaws}
use Rattle.orders.specs.Extremes.{least, greatest}
use Rattle.orders.proofs.Extremes.{greatest_at}
use Rattle.orders.proofs.Lowest.{lowest_is}
use Rattle.game.specs.Choices.{first_round, arm_choice, person_choice, chosen}
use Rattle.game.specs.Plays.{degree, move_of}
use Rattle.game.specs.Rounds.{charge_of, value_through, row_value, round}
use Rattle.game.specs.Strategies.{ToMove}
use Rattle.game.specs.Values.{value_leq, is_cost}
use Rattle.game.proofs.Firsts.{first_below, first_is, first_least, first_cost}
use Rattle.game.proofs.Rounds.{later_lower}
use Rattle.game.proofs.Values.{values, add_keeps, add_grows, cost_lower}

-- the move m of p gave no more than the value of p, in the round before that in which this value first stood
pub record Good {C : Type 0} (k : Kind C) (t : Table) (n p m : ℕ) : Type 0 where
  pub before : ℕ
  pub since : first_round k t n p ≡ suc before
  pub gave : value_leq k (value_through k (round k t before) (move_of t p m)) (round k t n p) ≡ true

-- q has a lower value than p, or the same since an earlier round
pub record Under {C : Type 0} (k : Kind C) (t : Table) (n q p : ℕ) : Type 0 where
  pub lower : value_leq k (round k t n q) (round k t n p) ≡ true
  pub earlier : value_leq k (round k t n p) (round k t n q) ≡ true → first_round k t n q < first_round k t n p

module _ {C : Type 0} (k : Kind C) (laws : CostLaws k) (t : Table) where
  -- the value of a row that does not rest, by its turn
  pub row_arm : (w : ℕ → Option C) (p : ℕ) → ToMove t p Arm → row_value k w (row_at t p) ≡ least (value_leq k) None (map (value_through k w) (row_at t p).moves)
  row_arm w p m = rw (m.awake, m.whose)

  pub row_person : (w : ℕ → Option C) (p : ℕ) → ToMove t p Person → row_value k w (row_at t p) ≡ greatest (value_leq k) None (map (value_through k w) (row_at t p).moves)
  row_person w p m = rw (m.awake, m.whose)

  -- the next round by the turn
  pub round_arm : (n p : ℕ) → ToMove t p Arm → round k t (suc n) p ≡ least (value_leq k) None (map (value_through k (round k t n)) (row_at t p).moves)
  unfolding round
  round_arm n p m = row_arm (round k t n) p m

  pub round_person : (n p : ℕ) → ToMove t p Person → round k t (suc n) p ≡ greatest (value_leq k) None (map (value_through k (round k t n)) (row_at t p).moves)
  unfolding round
  round_person n p m = row_person (round k t n) p m

  -- the chosen move by the turn
  pub chosen_arm : (n p : ℕ) → ToMove t p Arm → chosen k t n p ≡ arm_choice k t (round k t n p) (first_round k t n p) (row_at t p)
  unfolding chosen
  chosen_arm n p m = rw (m.awake, m.whose)

  pub chosen_person : (n p : ℕ) → ToMove t p Person → chosen k t n p ≡ person_choice k (round k t n) (round k t n p) (row_at t p)
  unfolding chosen
  chosen_person n p m = rw (m.awake, m.whose)

  module _ (n : ℕ) where
    good_inside : (p m : ℕ) → (g : Good k t n p m) → g.before ≤ n
    good_inside p m g = omega (arith, first_below k laws t n p, g.since)

    -- a good move is paid for
    pub good_paid : (p m : ℕ) → Good k t n p m → value_leq k (value_through k (round k t n) (move_of t p m)) (round k t n p) ≡ true
    good_paid p m g =
        (values k laws).transitive _ _ _
        (add_keeps k laws (charge_of k (move_of t p m)) _ _ (later_lower k laws t g.before n (move_of t p m).target (good_inside p m g)))
        g.gave

    -- and leads under p
    pub good_under : (p m : ℕ) → Good k t n p m → Under k t n (move_of t p m).target p
    good_under p m g = record { lower = (values k laws).transitive _ _ _ (add_grows k laws (charge_of k (move_of t p m)) _) (good_paid p m g); earlier = sooner }
      where
        q : ℕ
        q = (move_of t p m).target

        stood : value_leq k (round k t n p) (round k t n q) ≡ true → value_leq k (round k t g.before q) (round k t n q) ≡ true
        stood h = (values k laws).transitive _ _ _ (add_grows k laws (charge_of k (move_of t p m)) _) ((values k laws).transitive _ _ _ g.gave h)

        sooner : value_leq k (round k t n p) (round k t n q) ≡ true → first_round k t n q < first_round k t n p
        sooner h =
            ⊎_elim (λ (l : first_round k t n q < first_round k t n p). l)
            (λ (l : first_round k t n p ≤ first_round k t n q). absurd (both_ways _ (first_least k laws t n q g.before (omega (arith, g.since))) (stood h)))
            (cases_lt (first_round k t n q) (first_round k t n p))

    pub under_under : (a b c : ℕ) → Under k t n a b → Under k t n b c → Under k t n a c
    under_under a b c u v = record {
      lower = (values k laws).transitive _ _ _ u.lower v.lower;
      earlier = λ h. sooner (u.earlier ((values k laws).transitive _ _ _ v.lower h)) (v.earlier ((values k laws).transitive _ _ _ h u.lower));
    }
      where
        sooner : first_round k t n a < first_round k t n b → first_round k t n b < first_round k t n c → first_round k t n a < first_round k t n c
        sooner x y = omega arith

    pub under_other : (p q : ℕ) → Under k t n q p → p ≡ q → ⊥
    under_other p q u e = itself (u.earlier (subst (λ z. value_leq k (round k t n p) (round k t n z) ≡ true) e ((values k laws).reflexive _))) (ap (first_round k t n) e)
      where
        itself : first_round k t n q < first_round k t n p → first_round k t n p ≡ first_round k t n q → ⊥
        itself x y = omega arith

    -- the arm's chosen move is good, and is there
    pub good_arm : (p m : ℕ) → ToMove t p Arm → chosen k t n p ≡ Some m → Good k t n p m × (m < degree t p)
    good_arm p m move e = go (first_round k t n p) refl (sym (chosen_arm n p move) ∙ e)
      where
        go : (j : ℕ) → first_round k t n p ≡ j → arm_choice k t (round k t n p) (first_round k t n p) (row_at t p) ≡ Some m → Good k t n p m × (m < degree t p)
        go zero since h = absurd (never (subst (λ j. arm_choice k t (round k t n p) j (row_at t p) ≡ Some m) since h))
          where
            never : ◌≡◌ {A = Option ℕ} None (Some m) → ⊥
            never q = let z : ◌≡◌ {A = ℕ} 0 1 = cc in omega arith
        go (suc j) since h =
            let found = lowest_is absent_move (λ s. value_leq k (value_through k (round k t j) s) (round k t n p)) (row_at t p).moves m
            (subst (λ i. arm_choice k t (round k t n p) i (row_at t p) ≡ Some m) since h) in
            (record { before = j; since = since; gave = found.passes }, found.there)

    -- every move of a person's position with a cost is good
    pub good_person : (p m : ℕ) → ToMove t p Person → is_cost (round k t n p) ≡ true → m < degree t p → Good k t n p m
    good_person p m move cost there = go (first_cost k laws t n p move.awake cost)
      where
        go : (j : ℕ) × (first_round k t n p ≡ suc j) → Good k t n p m
        go (j, since) = record {
          before = j;
          since = since;
          gave = subst (λ v. value_leq k (value_through k (round k t j) (move_of t p m)) v ≡ true) (sym (round_person j p move) ∙ ap (λ (i : ℕ). round k t i p) (sym since) ∙ first_is k laws t n p)
              (greatest_at (values k laws) absent_move None (value_through k (round k t j)) (row_at t p).moves m there);
        }

    -- what a good move leads to has a cost, if what it leaves has one
    pub good_cost : (p m : ℕ) → Good k t n p m → is_cost (round k t n p) ≡ true → is_cost (round k t n (move_of t p m).target) ≡ true
    good_cost p m g cost = cost_lower k laws _ _ (good_under p m g).lower cost
