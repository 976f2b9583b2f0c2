-- Against the person's chosen moves no arm pays less than the cost of the position.
use Rattle.std.proofs.Common.{◌≡◌, ℕ, zero, suc, Bool, true, false, List, [], ◌∷◌, ◌++◌, Some, None, Option, sym, refl, ap, ◌∙◌, subst, arith}
use Rattle.std.proofs.lemmas.Bool.{false≢true}
use Rattle.board.specs.Table.{Table, row_at, absent_move}
use Rattle.board.specs.declared.parts.Turn.{Turn}
use Rattle.board.specs.declared.parts.Turn.TheVariants.{Arm, Person}
use Rattle.cost.specs.Kind.{Kind}
use Rattle.cost.specs.Laws.{CostLaws}
use Rattle.orders.proofs.Extremes.{least_at}
use Rattle.orders.proofs.Lowest.{lowest_is}
use Rattle.game.specs.Choices.{chosen}
use Rattle.game.specs.Plays.{move_of, Allowed, Play, endpoint, cost_from, play_cost, Follows}
use Rattle.game.specs.Rounds.{charge_of, value_through, round, FixedPoint}
use Rattle.game.specs.Strategies.{Strategy, ArmStrategy, ToMove, pick, play_of, plan_strategy}
use Rattle.game.specs.Values.{value_leq, value_add}
use Rattle.game.proofs.Choosing.{chosen_there}
use Rattle.game.proofs.Moves.{round_arm, chosen_person}
use Rattle.game.proofs.Rounds.{resting}
use Rattle.game.proofs.Unrolled.{endpoint_push, play_push, play_next, play_stop, pick_rest, pick_arm, pick_person}
use Rattle.game.proofs.Values.{values, add_keeps, add_assoc, add_zero, add_of_zero}

-- a play in which the person makes the chosen moves
record Answered {C : Type 0} (k : Kind C) (t : Table) (n p : ℕ) (ms : List ℕ) : Type 0 where
  played : Play t p ms
  follows : Follows t (chosen k t n) Person p ms

module _ {C : Type 0} (k : Kind C) (laws : CostLaws k) (t : Table) (n : ℕ) where
  -- the value of p is not above that through a move that is there, the chosen one if it is a person's
  not_above : FixedPoint k t n → (p m : ℕ) → Allowed t p m → ((row_at t p).turn ≡ Person → chosen k t n p ≡ Some m)
      → value_leq k (round k t n p) (value_through k (round k t n) (move_of t p m)) ≡ true
  not_above fixed p m a by_plan = go (row_at t p).turn refl
    where
      go : (turn : Turn) → (row_at t p).turn ≡ turn → value_leq k (round k t n p) (value_through k (round k t n) (move_of t p m)) ≡ true
      go Arm whose =
          subst (λ v. value_leq k v (value_through k (round k t n) (move_of t p m)) ≡ true) (sym (round_arm k laws t n p (record { awake = a.awake; whose = whose })) ∙ fixed p)
          (least_at (values k laws) absent_move None (value_through k (round k t n)) (row_at t p).moves m a.there)
      go Person whose =
          (lowest_is absent_move (λ s. value_leq k (round k t n p) (value_through k (round k t n) s)) (row_at t p).moves m
          (sym (chosen_person k laws t n p (record { awake = a.awake; whose = whose })) ∙ by_plan whose)).passes

  -- from the end of a resting play backwards
  still_paid : FixedPoint k t n → (p : ℕ) (ms : List ℕ) (c : C) → Play t p ms → Follows t (chosen k t n) Person p ms → (row_at t (endpoint t p ms)).rests ≡ true
      → value_leq k (value_add k c (round k t n p)) (Some (cost_from k t c p ms)) ≡ true
  still_paid fixed p [] c play follows rests =
      subst (λ v. value_leq k v (Some c) ≡ true) (sym (ap (value_add k c) (resting k laws t n p rests) ∙ add_of_zero k laws c)) ((values k laws).reflexive (Some c))
  still_paid fixed p (m ∷ ms) c play follows rests =
      (values k laws).transitive _ _ _
      (add_keeps k laws c (round k t n p) (value_through k (round k t n) (move_of t p m)) (not_above fixed p m play.0 follows.0))
      (subst (λ v. value_leq k v (Some (cost_from k t c p (m ∷ ms))) ≡ true) (add_assoc k laws c (charge_of k (move_of t p m)) (round k t n (move_of t p m).target))
      (still_paid fixed (move_of t p m).target ms (k.add c (charge_of k (move_of t p m))) play.1 follows.1 rests))

  pub pays_back : FixedPoint k t n → (p : ℕ) (ms : List ℕ) → Play t p ms → Follows t (chosen k t n) Person p ms
      → (row_at t (endpoint t p ms)).rests ≡ true → value_leq k (round k t n p) (Some (play_cost k t p ms)) ≡ true
  pays_back fixed p ms play follows rests = subst (λ v. value_leq k v (Some (play_cost k t p ms)) ≡ true) (add_zero k laws (round k t n p)) (still_paid fixed p ms k.zero play follows rests)

  module _ (p : ℕ) (arm : Strategy) (lawful : ArmStrategy t p arm) where
    -- what is picked may be made, and is the chosen move if it is a person's
    pick_told : (h : List ℕ) (m : ℕ) → Play t p h → (row_at t (endpoint t p h)).rests ≡ false → pick t arm (plan_strategy t (chosen k t n) p) (endpoint t p h) h ≡ Some m
        → Allowed t (endpoint t p h) m × ((row_at t (endpoint t p h)).turn ≡ Person → chosen k t n (endpoint t p h) ≡ Some m)
    pick_told h m play awake e = go (row_at t q).turn refl
      where
        q : ℕ
        q = endpoint t p h

        person : Strategy
        person = plan_strategy t (chosen k t n) p

        go : (turn : Turn) → (row_at t q).turn ≡ turn → Allowed t q m × ((row_at t q).turn ≡ Person → chosen k t n q ≡ Some m)
        go Arm whose =
            let move : ToMove t q Arm = record { awake = awake; whose = whose } in
            (record { awake = awake; there = lawful h m play move (sym (pick_arm t arm person q h move) ∙ e) }, λ other. absurd (never (sym whose ∙ other)))
          where
            never : Arm ≡ Person → ⊥
            never x = let z : ◌≡◌ {A = ℕ} 0 1 = cc in omega arith
        go Person whose =
            let is = sym (pick_person t arm person q h (record { awake = awake; whose = whose })) ∙ e in
            (record { awake = awake; there = chosen_there k laws t n q m awake is }, λ _. is)

    answered : (m : ℕ) (h : List ℕ) → Play t p h → Answered k t n (endpoint t p h) (play_of t arm (plan_strategy t (chosen k t n) p) m (endpoint t p h) h)
    answered zero h play = record { played = tt; follows = tt }
    answered (suc m) h play = step (answered m)
      where
        q : ℕ
        q = endpoint t p h

        person : Strategy
        person = plan_strategy t (chosen k t n) p

        step : ((g : List ℕ) → Play t p g → Answered k t n (endpoint t p g) (play_of t arm person m (endpoint t p g) g)) → Answered k t n q (play_of t arm person (suc m) q h)
        step further = rest (row_at t q).rests refl
          where
            ended : pick t arm person q h ≡ None → Answered k t n q (play_of t arm person (suc m) q h)
            ended e = subst (Answered k t n q) (sym (play_stop t arm person m q h e)) (record { played = tt; follows = tt })

            onto : (x : ℕ) → pick t arm person q h ≡ Some x → Allowed t q x × ((row_at t q).turn ≡ Person → chosen k t n q ≡ Some x) → Answered k t n q (play_of t arm person (suc m) q h)
            onto x e c =
                let r : Answered k t n (move_of t q x).target (play_of t arm person m (move_of t q x).target (h ++ (x ∷ []))) =
                subst (λ z. Answered k t n z (play_of t arm person m z (h ++ (x ∷ [])))) (endpoint_push t p h x) (further (h ++ (x ∷ [])) (play_push t p h x play c.0)) in
                subst (Answered k t n q) (sym (play_next t arm person m q h x e)) (record { played = (c.0, r.played); follows = (c.1, r.follows) })

            awake : (row_at t q).rests ≡ false → (o : Option ℕ) → pick t arm person q h ≡ o → Answered k t n q (play_of t arm person (suc m) q h)
            awake a None e = ended e
            awake a (Some x) e = onto x e (pick_told h x play a e)

            rest : (b : Bool) → (row_at t q).rests ≡ b → Answered k t n q (play_of t arm person (suc m) q h)
            rest true e = ended (pick_rest t arm person q h e)
            rest false e = awake e (pick t arm person q h) refl

    pub person_holds : FixedPoint k t n → (m : ℕ) → (row_at t (endpoint t p (play_of t arm (plan_strategy t (chosen k t n) p) m p []))).rests ≡ true
        → value_leq k (round k t n p) (Some (play_cost k t p (play_of t arm (plan_strategy t (chosen k t n) p) m p []))) ≡ true
    person_holds fixed m rests =
        let a = answered m [] tt in
        pays_back fixed p (play_of t arm (plan_strategy t (chosen k t n) p) m p []) a.played a.follows rests

    none_below : (v : Option C) (x : C) → v ≡ None → value_leq k v (Some x) ≡ true → ⊥
    unfolding value_leq
    none_below v x e h = false≢true (rw e at h)

    pub never_rests : FixedPoint k t n → round k t n p ≡ None → (m : ℕ) → (row_at t (endpoint t p (play_of t arm (plan_strategy t (chosen k t n) p) m p []))).rests ≡ true → ⊥
    never_rests fixed none m rests = none_below (round k t n p) _ none (person_holds fixed m rests)
