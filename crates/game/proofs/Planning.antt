-- The plan rests within F moves for at most the cost of the position.
use Rattle.std.proofs.Common.{◌≡◌, ℕ, zero, suc, ◌<◌, ◌≤◌, Bool, true, false, ◌⊎◌, List, [], ◌∷◌, ◌++◌, map, length, Some, None, Option, sym, refl, ap, ◌∙◌, subst, inl, inr, ⊎_elim, arith}
use Rattle.std.proofs.lemmas.Bool.{cases_Bool, false≢true}
use Rattle.board.specs.Table.{Table, row_at}
use Rattle.board.specs.declared.parts.Step.{Step}
use Rattle.board.specs.declared.parts.Turn.{Turn}
use Rattle.board.specs.declared.parts.Turn.TheVariants.{Arm, Person}
use Rattle.cost.specs.Kind.{Kind}
use Rattle.cost.specs.Laws.{CostLaws}
use Rattle.orders.specs.Extremes.{greatest}
use Rattle.game.specs.Choices.{chosen}
use Rattle.game.specs.Open.{open_positions}
use Rattle.game.specs.PlanRests.{Within}
use Rattle.game.specs.Plays.{degree, move_of, Allowed, Play, endpoint, play_cost, Follows}
use Rattle.game.specs.Promise.{Rests}
use Rattle.game.specs.Rounds.{value_through, round}
use Rattle.game.specs.Strategies.{Strategy, PersonStrategy, ToMove, pick, play_of, plan_strategy}
use Rattle.game.specs.Values.{value_leq, is_cost}
use Rattle.game.proofs.Choosing.{arm_chooses}
use Rattle.game.proofs.Firsts.{first_is, first_cost}
use Rattle.game.proofs.Moves.{round_person, good_cost}
use Rattle.game.proofs.Playing.{GoodPlay, good_move, good_play, spent_within, held_distinct, few_moves, fewer_awake}
use Rattle.game.proofs.Rounds.{resting}
use Rattle.game.proofs.Unrolled.{endpoint_push, play_push, play_next, play_stop, pick_rest, pick_arm, pick_person}

-- a move that is picked at p
record Picked {C : Type 0} (k : Kind C) (t : Table) (n p : ℕ) (o : Option ℕ) : Type 0 where
  move : ℕ
  is : o ≡ Some move
  allowed : Allowed t p move
  by_plan : (row_at t p).turn ≡ Arm → chosen k t n p ≡ Some move

-- a play of at most m moves by the plan, which stops short only at rest
record Runs {C : Type 0} (k : Kind C) (t : Table) (n m p : ℕ) (ms : List ℕ) : Type 0 where
  played : Play t p ms
  follows : Follows t (chosen k t n) Arm p ms
  stops : ((row_at t (endpoint t p ms)).rests ≡ true) ⊎ (length ms ≡ m)

module _ {C : Type 0} (k : Kind C) (laws : CostLaws k) (t : Table) (n : ℕ) where
  pub stays_within : (p : ℕ) (w : C) → round k t n p ≡ Some w → (ms : List ℕ) → GoodPlay k t n p ms → Within k t n p w ms
  stays_within p w e ms g = record {
    short = few_moves k laws t n p ms (ap is_cost e) g;
    distinct = held_distinct k laws t n p ms g;
    covered = let s = spent_within k laws t n p ms k.zero w e g in (s.0, s.1, subst (λ x. k.leq (k.add (play_cost k t p ms) s.0) x ≡ true) (laws.zero_left w) s.2);
  }

  pub play_within : (p : ℕ) (w : C) → round k t n p ≡ Some w → (ms : List ℕ) → Play t p ms → Follows t (chosen k t n) Arm p ms → Within k t n p w ms
  play_within p w e ms play follows = stays_within p w e ms (good_play k laws t n p ms (ap is_cost e) play follows)

  -- a person's position with a cost has a move
  person_moves : (p : ℕ) → ToMove t p Person → is_cost (round k t n p) ≡ true → 0 < degree t p
  person_moves p move cost = go (row_at t p).moves value
    where
      value : (j : ℕ) × (round k t n p ≡ greatest (value_leq k) None (map (value_through k (round k t j)) (row_at t p).moves))
      value = let f = first_cost k laws t n p move.awake cost in (f.0, sym (first_is k laws t n p) ∙ ap (λ (i : ℕ). round k t i p) f.1 ∙ round_person k laws t f.0 p move)

      go : (ms : List Step) → (j : ℕ) × (round k t n p ≡ greatest (value_leq k) None (map (value_through k (round k t j)) ms)) → 0 < length ms
      go [] v = absurd (false≢true (sym (ap is_cost v.1) ∙ cost))
      go (s ∷ ms) v = omega arith

  module _ (p : ℕ) (person : Strategy) (lawful : PersonStrategy t p person) where
    plan_picks : (h : List ℕ) → Play t p h → is_cost (round k t n (endpoint t p h)) ≡ true → (row_at t (endpoint t p h)).rests ≡ false
        → Picked k t n (endpoint t p h) (pick t (plan_strategy t (chosen k t n) p) person (endpoint t p h) h)
    plan_picks h play cost awake = go (row_at t (endpoint t p h)).turn refl
      where
        q : ℕ
        q = endpoint t p h

        arm : Strategy
        arm = plan_strategy t (chosen k t n) p

        go : (turn : Turn) → (row_at t q).turn ≡ turn → Picked k t n q (pick t arm person q h)
        go Arm whose =
            let move : ToMove t q Arm = record { awake = awake; whose = whose } in
            let c = arm_chooses k laws t n q move cost in
            record { move = c.move; is = pick_arm t arm person q h move ∙ c.is; allowed = record { awake = awake; there = c.there }; by_plan = λ _. c.is }
        go Person whose =
            let move : ToMove t q Person = record { awake = awake; whose = whose } in
            let b = lawful h play move (person_moves q move cost) in
            record { move = b.0; is = pick_person t arm person q h move ∙ b.1; allowed = record { awake = awake; there = b.2 }; by_plan = λ e. absurd (other (sym e ∙ whose)) }
          where
            other : Arm ≡ Person → ⊥
            other e = let z : ◌≡◌ {A = ℕ} 0 1 = cc in omega arith

    plan_runs : (m : ℕ) (h : List ℕ) → Play t p h → is_cost (round k t n (endpoint t p h)) ≡ true
        → Runs k t n m (endpoint t p h) (play_of t (plan_strategy t (chosen k t n) p) person m (endpoint t p h) h)
    plan_runs zero h play cost = record { played = tt; follows = tt; stops = inr refl }
    plan_runs (suc m) h play cost = step (plan_runs m)
      where
        q : ℕ
        q = endpoint t p h

        arm : Strategy
        arm = plan_strategy t (chosen k t n) p

        step : ((g : List ℕ) → Play t p g → is_cost (round k t n (endpoint t p g)) ≡ true → Runs k t n m (endpoint t p g) (play_of t arm person m (endpoint t p g) g))
            → Runs k t n (suc m) q (play_of t arm person (suc m) q h)
        step further = go (row_at t q).rests refl
          where
            onto : Picked k t n q (pick t arm person q h) → Runs k t n (suc m) q (play_of t arm person (suc m) q h)
            onto c =
                let good = good_move k laws t n q c.move cost c.allowed c.by_plan in
                let there = endpoint_push t p h c.move in
                let next : is_cost (round k t n (endpoint t p (h ++ (c.move ∷ [])))) ≡ true = subst (λ z. is_cost (round k t n z) ≡ true) (sym there) (good_cost k laws t n q c.move good cost) in
                let r : Runs k t n m (move_of t q c.move).target (play_of t arm person m (move_of t q c.move).target (h ++ (c.move ∷ []))) =
                subst (λ z. Runs k t n m z (play_of t arm person m z (h ++ (c.move ∷ [])))) there (further (h ++ (c.move ∷ [])) (play_push t p h c.move play c.allowed) next) in
                subst (Runs k t n (suc m) q) (sym (play_next t arm person m q h c.move c.is))
                (record { played = (c.allowed, r.played); follows = (c.by_plan, r.follows); stops = ⊎_elim inl (λ e. inr (ap suc e)) r.stops })

            go : (b : Bool) → (row_at t q).rests ≡ b → Runs k t n (suc m) q (play_of t arm person (suc m) q h)
            go true e = subst (Runs k t n (suc m) q) (sym (play_stop t arm person m q h (pick_rest t arm person q h e))) (record { played = tt; follows = tt; stops = inl e })
            go false e = onto (plan_picks h play cost e)

    pub plan_rests : (w : C) → round k t n p ≡ Some w → (m : ℕ) → open_positions t (round k t n) ≤ m
        → Rests k t p (open_positions t (round k t n)) w (play_of t (plan_strategy t (chosen k t n) p) person m p [])
    plan_rests w e m enough = told (play_of t (plan_strategy t (chosen k t n) p) person m p []) (plan_runs m [] tt (ap is_cost e))
      where
        told : (ms : List ℕ) → Runs k t n m p ms → Rests k t p (open_positions t (round k t n)) w ms
        told ms r = record { played = r.played; rested = rested; short = within.short; pays = pays within.covered }
          where
            good : GoodPlay k t n p ms
            good = good_play k laws t n p ms (ap is_cost e) r.played r.follows

            within : Within k t n p w ms
            within = stays_within p w e ms good

            rested : (row_at t (endpoint t p ms)).rests ≡ true
            rested =
                ⊎_elim (λ (y : (row_at t (endpoint t p ms)).rests ≡ true). y)
                (λ (y : (row_at t (endpoint t p ms)).rests ≡ false). ⊎_elim (λ z. z)
                (λ (l : length ms ≡ m). absurd (too_long (fewer_awake k laws t n p ms (ap is_cost e) good y) l)) r.stops)
                (cases_Bool (row_at t (endpoint t p ms)).rests)
              where
                too_long : suc (length ms) ≤ open_positions t (round k t n) → length ms ≡ m → ⊥
                too_long a b = omega arith

            inside : (x y : C) → ◌≡◌ {A = Option C} (Some x) (Some y) → x ≡ y
            inside x y q = cc

            pays : (v : C) × (round k t n (endpoint t p ms) ≡ Some v) × (k.leq (k.add (play_cost k t p ms) v) w ≡ true) → k.leq (play_cost k t p ms) w ≡ true
            pays (v, is, le) =
                let zero-here = inside v k.zero (sym is ∙ resting k laws t n (endpoint t p ms) rested) in
                subst (λ x. k.leq x w ≡ true) (ap (k.add (play_cost k t p ms)) zero-here ∙ laws.zero_right (play_cost k t p ms)) le
