-- A run makes a play by the plan.
use Rattle.std.proofs.Common.{◌≡◌, ℕ, suc, ◌+◌, ◌<◌, ◌≤◌, min, true, false, eqb, ltb, List, [], ◌∷◌, length, Some, None, Option, sym, refl, ap, ◌∙◌, subst, arith}
use Rattle.std.proofs.lemmas.Bool.{both_ways, cond_both, ltb-true}
use Rattle.board.specs.Table.{Table, row_at}
use Rattle.board.specs.declared.parts.Turn.{Turn}
use Rattle.board.specs.declared.parts.Turn.TheVariants.{Arm, Person}
use Rattle.cost.specs.Kind.{Kind}
use Rattle.cost.specs.Laws.{CostLaws}
use Rattle.game.specs.Choices.{chosen}
use Rattle.game.specs.Events.{Outcome, refused, begins, makes, if_there, with_move, in_phase, outcome, resulting, after_events, noted, accepted}
use Rattle.game.specs.PlanRests.{Within}
use Rattle.game.specs.Plays.{degree, move_of, Allowed, Play, endpoint, cost_from, play_cost}
use Rattle.game.specs.Progress.{turn_phase, phase_at, begun, moved}
use Rattle.game.specs.Promise.{Covered}
use Rattle.game.specs.Rounds.{round}
use Rattle.game.specs.RunsKeep.{solution}
use Rattle.game.specs.Strategies.{ToMove}
use Rattle.game.specs.Values.{is_cost}
use Rattle.game.specs.declared.parts.Event.{Event}
use Rattle.game.specs.declared.parts.Event.TheVariants.{Go, There, Hand}
use Rattle.game.specs.declared.parts.Phase.{Phase}
use Rattle.game.specs.declared.parts.Phase.TheVariants.{ArmTurn, Moving, PersonTurn, Ended}
use Rattle.game.specs.declared.parts.Progress.{Progress}
use Rattle.game.proofs.Moves.{good_cost}
use Rattle.game.proofs.Planning.{stays_within}
use Rattle.game.proofs.Playing.{GoodPlay, good_move}

-- the phase fits the position
abbrev Fits : Table → ℕ → Phase → Type 0
Fits t p ArmTurn = ToMove t p Arm
Fits t p Moving = ToMove t p Arm
Fits t p PersonTurn = ToMove t p Person
Fits t p Ended = (row_at t p).rests ≡ true

phase_fits : (t : Table) (p : ℕ) → Fits t p (phase_at t p)
phase_fits t p = cond_both (row_at t p).rests Ended (turn_phase (row_at t p).turn) (Fits t p) (λ e. e) (λ e. go e (row_at t p).turn refl)
  where
    go : (row_at t p).rests ≡ false → (turn : Turn) → (row_at t p).turn ≡ turn → Fits t p (turn_phase turn)
    go awake Arm e = record { awake = awake; whose = e }
    go awake Person e = record { awake = awake; whose = e }

fits_ended : (t : Table) (p : ℕ) (phase : Phase) → Fits t p phase → phase ≡ Ended → (row_at t p).rests ≡ true
fits_ended t p ArmTurn f e = absurd (let z : ◌≡◌ {A = ℕ} 0 1 = cc in omega arith)
fits_ended t p Moving f e = absurd (let z : ◌≡◌ {A = ℕ} 0 1 = cc in omega arith)
fits_ended t p PersonTurn f e = absurd (let z : ◌≡◌ {A = ℕ} 0 1 = cc in omega arith)
fits_ended t p Ended f e = f

rests_ended : (t : Table) (p : ℕ) (phase : Phase) → Fits t p phase → (row_at t p).rests ≡ true → phase ≡ Ended
rests_ended t p ArmTurn f e = absurd (both_ways _ f.awake e)
rests_ended t p Moving f e = absurd (both_ways _ f.awake e)
rests_ended t p PersonTurn f e = absurd (both_ways _ f.awake e)
rests_ended t p Ended f e = refl

-- what an outcome at p says: a move that is made may be made there, and is the chosen one if it is the arm's
abbrev Told : {C : Type 0} → Kind C → Table → ℕ → ℕ → Outcome → Type 0
Told k t n p (refused x) = Unit {0}
Told k t n p (begins m) = ToMove t p Arm
Told k t n p (makes m) = Allowed t p m × ((row_at t p).turn ≡ Arm → chosen k t n p ≡ Some m)

-- what events make of a run r that comes to r' by the moves ms
record Made {C : Type 0} (k : Kind C) (t : Table) (n : ℕ) (r : Progress C) (ms : List ℕ) (r' : Progress C) : Type 0 where
  good : GoodPlay k t n r.position ms
  played : Play t r.position ms
  stands : r'.position ≡ endpoint t r.position ms
  spends : r'.spent ≡ cost_from k t r.spent r.position ms
  counts : r'.made ≡ min (r.made + length ms) 4294967295
  fits : Fits t r'.position r'.phase

module _ {C : Type 0} (k : Kind C) (laws : CostLaws k) (t : Table) (n : ℕ) where
  there_told : (p : ℕ) (o : Option ℕ) (f : ℕ → Outcome) → ((m : ℕ) → o ≡ Some m → m < degree t p → Told k t n p (f m)) → Told k t n p (with_move (if_there t p o) f)
  there_told p None f h = tt
  there_told p (Some m) f h = cond_both (ltb m (degree t p)) (Some m) None (λ x. Told k t n p (with_move x f)) (λ e. h m refl (ltb-true _ _ e)) (λ e. tt)

  by_phase : (p : ℕ) (phase : Phase) (e : Event) → Fits t p phase → Told k t n p (in_phase t (chosen k t n) p phase e)
  by_phase p ArmTurn Go f = there_told p (chosen k t n p) begins (λ m e h. f)
  by_phase p ArmTurn There f = tt
  by_phase p ArmTurn (Hand m) f = tt
  by_phase p Moving Go f = tt
  by_phase p Moving There f = there_told p (chosen k t n p) makes (λ m e h. (record { awake = f.awake; there = h }, λ _. e))
  by_phase p Moving (Hand m) f = tt
  by_phase p PersonTurn Go f = tt
  by_phase p PersonTurn There f = tt
  by_phase p PersonTurn (Hand m) f = there_told p (Some m) makes (λ x e h. (record { awake = f.awake; there = h }, λ whose. absurd (never (sym whose ∙ f.whose))))
    where
      never : Arm ≡ Person → ⊥
      never x = let z : ◌≡◌ {A = ℕ} 0 1 = cc in omega arith
  by_phase p Ended e f = tt

  module _ (count : ℕ) where
    outcome_told : (r : Progress C) (e : Event) → Fits t r.position r.phase → Told k t n r.position (outcome t count (chosen k t n) r e)
    outcome_told r e f =
        cond_both (eqb (length t.rows) count) (in_phase t (chosen k t n) r.position r.phase e) (refused 50) (Told k t n r.position)
        (λ _. by_phase r.position r.phase e f) (λ _. tt)

    made_by : (es : List Event) (r : Progress C) → Fits t r.position r.phase → is_cost (round k t n r.position) ≡ true → r.made ≤ 4294967295
        → Made k t n r (accepted k t count (chosen k t n) r es) (after_events k t count (chosen k t n) r es)
    made_by [] r f cost le = record { good = tt; played = tt; stands = refl; spends = refl; counts = omega arith; fits = f }
    made_by (e ∷ es) r f cost le = step (made_by es) (outcome t count (chosen k t n) r e) (outcome_told r e f)
      where
        step : ((s : Progress C) → Fits t s.position s.phase → is_cost (round k t n s.position) ≡ true → s.made ≤ 4294967295
            → Made k t n s (accepted k t count (chosen k t n) s es) (after_events k t count (chosen k t n) s es))
            → (o : Outcome) → Told k t n r.position o
            → Made k t n r (noted o (accepted k t count (chosen k t n) (resulting k t r o) es)) (after_events k t count (chosen k t n) (resulting k t r o) es)
        step further (refused x) told = further r f cost le
        step further (begins m) told =
            let s = further (resulting k t r (begins m)) told cost le in
            record { good = s.good; played = s.played; stands = s.stands; spends = s.spends; counts = s.counts; fits = s.fits }
        step further (makes m) told =
            let g = good_move k laws t n r.position m cost told.0 told.1 in
            let s = further (moved k t r m) (phase_fits t (move_of t r.position m).target) (good_cost k laws t n r.position m g cost) (omega arith) in
            record {
              good = (told.0.awake, g, s.good);
              played = (told.0, s.played);
              stands = s.stands;
              spends = s.spends;
              counts = s.counts ∙ one_more (length (accepted k t count (chosen k t n) (moved k t r m) es));
              fits = s.fits;
            }
          where
            one_more : (l : ℕ) → min (min (r.made + 1) 4294967295 + l) 4294967295 ≡ min (r.made + suc l) 4294967295
            one_more l = omega arith

    pub run_covered : (w : C) → round k t n t.start ≡ Some w → (es : List Event)
        → Covered k t (solution k t n) w (accepted k t count (chosen k t n) (begun k t t.start) es) (after_events k t count (chosen k t n) (begun k t t.start) es)
    run_covered w e es =
        told (accepted k t count (chosen k t n) (begun k t t.start) es) (after_events k t count (chosen k t n) (begun k t t.start) es)
        (made_by es (begun k t t.start) (phase_fits t t.start) (ap is_cost e) (omega arith))
      where
        told : (ms : List ℕ) (r : Progress C) → Made k t n (begun k t t.start) ms r → Covered k t (solution k t n) w ms r
        told ms r m = record {
          covered = here within.covered;
          few = within.short;
          distinct = within.distinct;
          played = m.played;
          stands = m.stands;
          spends = m.spends;
          counts = m.counts ∙ from_zero (length ms);
          ends = fits_ended t r.position r.phase m.fits;
          rests = rests_ended t r.position r.phase m.fits;
        }
          where
            within : Within k t n t.start w ms
            within = stays_within k laws t n t.start w e ms m.good

            from_zero : (l : ℕ) → min (0 + l) 4294967295 ≡ min l 4294967295
            from_zero l = omega arith

            here : (v : C) × (round k t n (endpoint t t.start ms) ≡ Some v) × (k.leq (k.add (play_cost k t t.start ms) v) w ≡ true)
                → (v : C) × (round k t n r.position ≡ Some v) × (k.leq (k.add r.spent v) w ≡ true)
            here (v, is, le) = (v, subst (λ q. round k t n q ≡ Some v) (sym m.stands) is, subst (λ c. k.leq (k.add c v) w ≡ true) (sym m.spends) le)
