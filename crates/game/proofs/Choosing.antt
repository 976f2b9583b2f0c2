-- The chosen moves are what their names say.
use Rattle.std.proofs.Common.{◌≡◌, ℕ, zero, suc, ◌<◌, ◌≤◌, Bool, true, false, List, [], ◌∷◌, map, length, Some, None, Option, sym, refl, ap, ◌∙◌, subst, not-suc-le-zero, arith}
use lib.ListN.{get_or-eq_default}
use Rattle.std.proofs.lemmas.Bool.{both_ways, false≢true}
use Rattle.board.specs.Table.{Row, Table, row_at, absent_row, absent_move}
use Rattle.board.specs.declared.parts.Step.{Step}
use Rattle.board.specs.declared.parts.Turn.{Turn}
use Rattle.board.specs.declared.parts.Turn.TheVariants.{Arm, Person}
use Rattle.cost.specs.Kind.{Kind}
use Rattle.cost.specs.Laws.{CostLaws}
use Rattle.orders.specs.Extremes.{least, greatest}
use Rattle.orders.specs.Lowest.{lowest}
use Rattle.orders.proofs.Extremes.{Place, least_at, greatest_at, least_in, greatest_in, above_left}
use Rattle.orders.proofs.Lowest.{Found, lowest_found, lowest_is}
use Rattle.game.specs.Choices.{first_round, arm_choice, person_choice, choice_of, chosen}
use Rattle.game.specs.ChosenMoves.{FirstRound, ArmChooses, PersonChooses, Chooses}
use Rattle.game.specs.Plays.{degree, move_of, Allowed}
use Rattle.game.specs.Rounds.{value_through, round, FixedPoint}
use Rattle.game.specs.Strategies.{ToMove}
use Rattle.game.specs.Values.{value_leq, is_cost}
use Rattle.game.proofs.Firsts.{first_is, first_least, first_cost, first_none}
use Rattle.game.proofs.Moves.{round_arm, round_person, chosen_arm, chosen_person, good_arm}
use Rattle.game.proofs.Values.{values}

module _ {C : Type 0} (k : Kind C) (laws : CostLaws k) (t : Table) (n : ℕ) where
  pub first_round_told : (p : ℕ) → FirstRound k t n p
  first_round_told p = record {
    stands = first_is k laws t n p;
    not_before = λ m h e. both_ways _ (first_least k laws t n p m h) (subst (λ v. value_leq k (round k t m p) v ≡ true) e ((values k laws).reflexive _));
    none_is_zero = first_none k laws t n p;
  }

  above_none : (v : Option C) → is_cost v ≡ true → value_leq k None v ≡ false
  unfolding value_leq
  above_none None e = absurd (false≢true e)
  above_none (Some x) e = refl

  -- the value of p, by the round in which it first stood
  arm_value : (p j : ℕ) → ToMove t p Arm → first_round k t n p ≡ suc j → round k t n p ≡ least (value_leq k) None (map (value_through k (round k t j)) (row_at t p).moves)
  arm_value p j m since = sym (first_is k laws t n p) ∙ ap (λ (i : ℕ). round k t i p) since ∙ round_arm k laws t j p m

  pub arm_chooses : (p : ℕ) → ToMove t p Arm → is_cost (round k t n p) ≡ true → ArmChooses k t n p
  arm_chooses p move cost = go (first_cost k laws t n p move.awake cost)
    where
      go : (j : ℕ) × (first_round k t n p ≡ suc j) → ArmChooses k t n p
      go (j, since) = found (lowest_found absent_move test (row_at t p).moves place.index place.there (subst (λ v. value_leq k (through place.index) v ≡ true) (sym value) place.fits))
        where
          test : Step → Bool
          test s = value_leq k (value_through k (round k t j) s) (round k t n p)

          through : ℕ → Option C
          through m = value_through k (round k t j) (move_of t p m)

          value : round k t n p ≡ least (value_leq k) None (map (value_through k (round k t j)) (row_at t p).moves)
          value = arm_value p j move since

          place : Place absent_move (row_at t p).moves (λ s. value_leq k (value_through k (round k t j) s) (least (value_leq k) None (map (value_through k (round k t j)) (row_at t p).moves)) ≡ true)
          place = least_in (values k laws) absent_move None (value_through k (round k t j)) (row_at t p).moves (above_none _ (subst (λ v. is_cost v ≡ true) value cost))

          found : (i : ℕ) × (lowest test (row_at t p).moves ≡ Some i) × Found absent_move test (row_at t p).moves i → ArmChooses k t n p
          found (i, is, f) = record {
            move = i;
            is = chosen_arm k laws t n p move ∙ ap (λ (x : ℕ). arm_choice k t (round k t n p) x (row_at t p)) since ∙ is;
            there = f.there;
            before = j;
            since = since;
            gave = (values k laws).antisymmetric _ _ f.passes (subst (λ v. value_leq k v (through i) ≡ true) (sym value) (least_at (values k laws) absent_move None (value_through k (round k t j)) (row_at t p).moves i f.there));
            lowest = λ m h e. both_ways (test (move_of t p m)) (f.first m h) (subst (λ v. value_leq k v (round k t n p) ≡ true) (sym e) ((values k laws).reflexive _));
          }

  pub person_chooses : FixedPoint k t n → (p : ℕ) → ToMove t p Person → 0 < degree t p → PersonChooses k t n p
  person_chooses fixed p move some = found (lowest_found absent_move test (row_at t p).moves place.index place.there (subst (λ v. value_leq k v (through place.index) ≡ true) (sym value) place.fits))
    where
      test : Step → Bool
      test s = value_leq k (round k t n p) (value_through k (round k t n) s)

      through : ℕ → Option C
      through m = value_through k (round k t n) (move_of t p m)

      value : round k t n p ≡ greatest (value_leq k) None (map (value_through k (round k t n)) (row_at t p).moves)
      value = sym (fixed p) ∙ round_person k laws t n p move

      taken : (ms : List Step) → 0 < length ms → Place absent_move ms (λ s. value_leq k (greatest (value_leq k) None (map (value_through k (round k t n)) ms)) (value_through k (round k t n) s) ≡ true)
      taken [] h = absurd (not-suc-le-zero h)
      taken (s ∷ ms) h = greatest_in (values k laws) absent_move None (value_through k (round k t n)) s ms

      place : Place absent_move (row_at t p).moves (λ s. value_leq k (greatest (value_leq k) None (map (value_through k (round k t n)) (row_at t p).moves)) (value_through k (round k t n) s) ≡ true)
      place = taken (row_at t p).moves some

      found : (i : ℕ) × (lowest test (row_at t p).moves ≡ Some i) × Found absent_move test (row_at t p).moves i → PersonChooses k t n p
      found (i, is, f) = record {
        move = i;
        is = chosen_person k laws t n p move ∙ is;
        there = f.there;
        greatest = λ m h. (values k laws).transitive _ _ _
            (subst (λ v. value_leq k (through m) v ≡ true) (sym value) (greatest_at (values k laws) absent_move None (value_through k (round k t n)) (row_at t p).moves m h)) f.passes;
        lowest = λ m h. above_left (values k laws) (round k t n p) (through i) (through m) (f.first m h) f.passes;
      }

  pub none_at_rest : (p : ℕ) → (row_at t p).rests ≡ true → chosen k t n p ≡ None
  unfolding chosen
  none_at_rest p e = rw e

  -- the chosen move of a position that does not rest
  awake_choice : (p : ℕ) → (row_at t p).rests ≡ false → chosen k t n p ≡ choice_of k t n p (row_at t p).turn
  unfolding chosen
  awake_choice p e = rw e

  by_rest : (p : ℕ) → ((row_at t p).rests ≡ false → chosen k t n p ≡ None) → chosen k t n p ≡ None
  by_rest p h = go (row_at t p).rests refl
    where
      go : (b : Bool) → (row_at t p).rests ≡ b → chosen k t n p ≡ None
      go true e = none_at_rest p e
      go false e = h e

  arm_none : (v : Option C) (j : ℕ) (r : Row) → r.moves ≡ [] → arm_choice k t v j r ≡ None
  arm_none v zero r e = refl
  arm_none v (suc j) r e = rw e

  person_none : (w : ℕ → Option C) (v : Option C) (r : Row) → r.moves ≡ [] → person_choice k w v r ≡ None
  person_none w v r e = rw e

  pub none_without_moves : (p : ℕ) → (row_at t p).moves ≡ [] → chosen k t n p ≡ None
  none_without_moves p e = by_rest p (λ awake. awake_choice p awake ∙ either (row_at t p).turn)
    where
      either : (turn : Turn) → choice_of k t n p turn ≡ None
      either Arm = arm_none (round k t n p) (first_round k t n p) (row_at t p) e
      either Person = person_none (round k t n) (round k t n p) (row_at t p) e

  pub none_outside : (p : ℕ) → length t.rows ≤ p → chosen k t n p ≡ None
  none_outside p h = none_without_moves p (ap (λ (r : Row). r.moves) (get_or-eq_default t.rows absent_row h))

  pub none_without_cost : (p : ℕ) → (row_at t p).turn ≡ Arm → round k t n p ≡ None → chosen k t n p ≡ None
  none_without_cost p whose none =
      by_rest p (λ awake. chosen_arm k laws t n p (record { awake = awake; whose = whose }) ∙ ap (λ (j : ℕ). arm_choice k t (round k t n p) j (row_at t p)) (first_none k laws t n p none))

  -- a chosen move is there, and there is none at rest
  pub chosen_there : (p m : ℕ) → (row_at t p).rests ≡ false → chosen k t n p ≡ Some m → m < degree t p
  chosen_there p m awake e = go (row_at t p).turn refl
    where
      go : (turn : Turn) → (row_at t p).turn ≡ turn → m < degree t p
      go Arm whose = (good_arm k laws t n p m (record { awake = awake; whose = whose }) e).1
      go Person whose =
          (lowest_is absent_move (λ s. value_leq k (round k t n p) (value_through k (round k t n) s)) (row_at t p).moves m
          (sym (chosen_person k laws t n p (record { awake = awake; whose = whose })) ∙ e)).there

  pub chosen_allowed : (p m : ℕ) → chosen k t n p ≡ Some m → Allowed t p m
  chosen_allowed p m e = go (row_at t p).rests refl
    where
      never : ◌≡◌ {A = Option ℕ} None (Some m) → ⊥
      never q = let z : ◌≡◌ {A = ℕ} 0 1 = cc in omega arith

      go : (b : Bool) → (row_at t p).rests ≡ b → Allowed t p m
      go true rests = absurd (never (sym (none_at_rest p rests) ∙ e))
      go false awake = record { awake = awake; there = chosen_there p m awake e }

  pub chooses : FixedPoint k t n → (p : ℕ) → Chooses k t n p
  chooses fixed p = record {
    first = first_round_told p;
    allowed = chosen_allowed p;
    at_rest = none_at_rest p;
    no_moves = none_without_moves p;
    no_cost = none_without_cost p;
    arm = arm_chooses p;
    person = person_chooses fixed p;
  }
