-- A play by the plan's moves: what it spends, and how long it is.
use Rattle.std.proofs.Common.{◌≡◌, ℕ, suc, ◌<◌, ◌≤◌, Bool, true, false, cond, List, [], ◌∷◌, length, Some, None, Option, sym, refl, ap, ◌∙◌, subst, ⊎_elim}
use Rattle.std.proofs.ByRecursion.{All-weaker}
use Rattle.std.proofs.lemmas.Bool.{cases_lt, and_from, not_from_false, false≢true}
use Rattle.std.specs.List.{AllByRecursion}
use Rattle.board.specs.Table.{Table, row_at}
use Rattle.board.specs.declared.parts.Turn.{Turn}
use Rattle.board.specs.declared.parts.Turn.TheVariants.{Arm, Person}
use Rattle.cost.specs.Kind.{Kind}
use Rattle.cost.specs.Laws.{CostLaws}
use Rattle.orders.specs.Counting.{Distinct}
use Rattle.orders.proofs.Pigeons.{pigeons}
use Rattle.game.specs.Choices.{chosen}
use Rattle.game.specs.Open.{is_open, open_positions}
use Rattle.game.specs.Plays.{move_of, Allowed, Play, endpoint, held, cost_from, Follows}
use Rattle.game.specs.Rounds.{charge_of, value_through, round}
use Rattle.game.specs.Values.{value_leq, value_add, is_cost}
use Rattle.game.proofs.Moves.{Good, Under, good_paid, good_under, good_arm, good_person, good_cost, under_under, under_other}
use Rattle.game.proofs.Rounds.{outside}

-- each move of the play is good
abbrev pub GoodPlay : {C : Type 0} → Kind C → Table → ℕ → ℕ → List ℕ → Type 0
GoodPlay k t n p [] = Unit {0}
GoodPlay k t n p (m ∷ ms) = ((row_at t p).rests ≡ false) × Good k t n p m × GoodPlay k t n (move_of t p m).target ms

-- the positions that a play leaves, with its end if so told
abbrev pub stops : Bool → Table → ℕ → List ℕ → List ℕ
stops b t p [] = cond b (p ∷ []) []
stops b t p (m ∷ ms) = p ∷ stops b t (move_of t p m).target ms

held_stops : (t : Table) (p : ℕ) (ms : List ℕ) → stops true t p ms ≡ held t p ms
held_stops t p [] = refl
held_stops t p (m ∷ ms) = ap (λ (x : List ℕ). p ∷ x) (held_stops t (move_of t p m).target ms)

length_left : (t : Table) (p : ℕ) (ms : List ℕ) → length (stops false t p ms) ≡ length ms
length_left t p [] = refl
length_left t p (m ∷ ms) = ap suc (length_left t (move_of t p m).target ms)

length_held : (t : Table) (p : ℕ) (ms : List ℕ) → length (stops true t p ms) ≡ suc (length ms)
length_held t p [] = refl
length_held t p (m ∷ ms) = ap suc (length_held t (move_of t p m).target ms)

module _ {C : Type 0} (k : Kind C) (laws : CostLaws k) (t : Table) (n : ℕ) where
  cost_inside : (p : ℕ) → is_cost (round k t n p) ≡ true → p < length t.rows
  cost_inside p cost = ⊎_elim (λ h. h) (λ h. absurd (false≢true (sym (ap is_cost (outside k laws t n p h)) ∙ cost))) (cases_lt p (length t.rows))

  -- a move that is there, the chosen one if it is an arm's, is good
  pub good_move : (p m : ℕ) → is_cost (round k t n p) ≡ true → Allowed t p m → ((row_at t p).turn ≡ Arm → chosen k t n p ≡ Some m) → Good k t n p m
  good_move p m cost a by_plan = go (row_at t p).turn refl
    where
      go : (turn : Turn) → (row_at t p).turn ≡ turn → Good k t n p m
      go Arm e = (good_arm k laws t n p m (record { awake = a.awake; whose = e }) (by_plan e)).0
      go Person e = good_person k laws t n p m (record { awake = a.awake; whose = e }) cost a.there

  pub good_play : (p : ℕ) (ms : List ℕ) → is_cost (round k t n p) ≡ true → Play t p ms → Follows t (chosen k t n) Arm p ms → GoodPlay k t n p ms
  good_play p [] cost play follows = tt
  good_play p (m ∷ ms) cost play follows =
      let g = good_move p m cost play.0 follows.0 in
      (play.0.awake, g, good_play (move_of t p m).target ms (good_cost k laws t n p m g cost) play.1 follows.1)

  -- what is spent, with the cost of where the play stands, is within what it was
  pub spent_within : (p : ℕ) (ms : List ℕ) (c w : C) → round k t n p ≡ Some w → GoodPlay k t n p ms
      → (v : C) × (round k t n (endpoint t p ms) ≡ Some v) × (k.leq (k.add (cost_from k t c p ms) v) (k.add c w) ≡ true)
  spent_within p [] c w e g = (w, e, laws.order.reflexive (k.add c w))
  spent_within p (m ∷ ms) c w e g = further (spent_within (move_of t p m).target ms (k.add c (charge_of k (move_of t p m)))) (paid g.1)
    where
      ch : C
      ch = charge_of k (move_of t p m)

      q : ℕ
      q = (move_of t p m).target

      taken : (v : Option C) → value_leq k (value_add k ch v) (Some w) ≡ true → (x : C) × (v ≡ Some x) × (k.leq (k.add ch x) w ≡ true)
      taken None h = absurd (false≢true (unfold value_leq value_add in h))
      taken (Some x) h = (x, refl, unfold value_leq value_add in h)

      paid : Good k t n p m → (x : C) × (round k t n q ≡ Some x) × (k.leq (k.add ch x) w ≡ true)
      paid good = taken (round k t n q) (subst (λ v. value_leq k (value_through k (round k t n) (move_of t p m)) v ≡ true) e (good_paid k laws t n p m good))

      further : ((x : C) → round k t n q ≡ Some x → GoodPlay k t n q ms → (v : C) × (round k t n (endpoint t q ms) ≡ Some v) × (k.leq (k.add (cost_from k t (k.add c ch) q ms) v) (k.add (k.add c ch) x) ≡ true))
          → (x : C) × (round k t n q ≡ Some x) × (k.leq (k.add ch x) w ≡ true)
          → (v : C) × (round k t n (endpoint t q ms) ≡ Some v) × (k.leq (k.add (cost_from k t (k.add c ch) q ms) v) (k.add c w) ≡ true)
      further later (x, ex, le) =
          let r = later x ex g.2 in
          (r.0, r.1, laws.order.transitive _ _ _ r.2 (subst (λ y. k.leq y (k.add c w) ≡ true) (sym (laws.associative c ch x)) (laws.keeps_order c (k.add ch x) w le)))

  -- every stop of a play from under q is under q
  stops_under : (b : Bool) (q p : ℕ) (ms : List ℕ) → Under k t n p q → GoodPlay k t n p ms → AllByRecursion (λ z. Under k t n z q) (stops b t p ms)
  stops_under true q p [] u g = (u, tt)
  stops_under false q p [] u g = tt
  stops_under true q p (m ∷ ms) u g = (u, stops_under true q (move_of t p m).target ms (under_under k laws t n _ p q (good_under k laws t n p m g.1) u) g.2)
  stops_under false q p (m ∷ ms) u g = (u, stops_under false q (move_of t p m).target ms (under_under k laws t n _ p q (good_under k laws t n p m g.1) u) g.2)

  stops_distinct : (b : Bool) (p : ℕ) (ms : List ℕ) → GoodPlay k t n p ms → Distinct (stops b t p ms)
  stops_distinct true p [] g = (tt, tt)
  stops_distinct false p [] g = tt
  stops_distinct true p (m ∷ ms) g = (
    All-weaker (λ z. Under k t n z p) (λ z. p ≡ z → ⊥) (λ z u. under_other k laws t n p z u) (stops true t (move_of t p m).target ms)
        (stops_under true p (move_of t p m).target ms (good_under k laws t n p m g.1) g.2),
    stops_distinct true (move_of t p m).target ms g.2,
  )
  stops_distinct false p (m ∷ ms) g = (
    All-weaker (λ z. Under k t n z p) (λ z. p ≡ z → ⊥) (λ z u. under_other k laws t n p z u) (stops false t (move_of t p m).target ms)
        (stops_under false p (move_of t p m).target ms (good_under k laws t n p m g.1) g.2),
    stops_distinct false (move_of t p m).target ms g.2,
  )

  open_here : (p : ℕ) → is_cost (round k t n p) ≡ true → (row_at t p).rests ≡ false → (p < length t.rows) × (is_open t (round k t n) p ≡ true)
  open_here p cost awake = (cost_inside p cost, and_from _ _ cost (not_from_false _ awake))

  stops_open : (b : Bool) (p : ℕ) (ms : List ℕ) → is_cost (round k t n p) ≡ true → GoodPlay k t n p ms → (b ≡ true → (row_at t (endpoint t p ms)).rests ≡ false)
      → AllByRecursion (λ q. (q < length t.rows) × (is_open t (round k t n) q ≡ true)) (stops b t p ms)
  stops_open true p [] cost g end = (open_here p cost (end refl), tt)
  stops_open false p [] cost g end = tt
  stops_open true p (m ∷ ms) cost g end = (open_here p cost g.0, stops_open true (move_of t p m).target ms (good_cost k laws t n p m g.1 cost) g.2 end)
  stops_open false p (m ∷ ms) cost g end = (open_here p cost g.0, stops_open false (move_of t p m).target ms (good_cost k laws t n p m g.1 cost) g.2 end)

  -- no position is held twice
  pub held_distinct : (p : ℕ) (ms : List ℕ) → GoodPlay k t n p ms → Distinct (held t p ms)
  held_distinct p ms g = subst Distinct (held_stops t p ms) (stops_distinct true p ms g)

  -- at most F moves
  pub few_moves : (p : ℕ) (ms : List ℕ) → is_cost (round k t n p) ≡ true → GoodPlay k t n p ms → length ms ≤ open_positions t (round k t n)
  few_moves p ms cost g =
      subst (λ (x : ℕ). x ≤ open_positions t (round k t n)) (length_left t p ms)
      (pigeons (is_open t (round k t n)) (length t.rows) (stops false t p ms) (stops_distinct false p ms g) (stops_open false p ms cost g (λ e. absurd (false≢true e))))

  -- and fewer, where the play does not rest
  pub fewer_awake : (p : ℕ) (ms : List ℕ) → is_cost (round k t n p) ≡ true → GoodPlay k t n p ms → (row_at t (endpoint t p ms)).rests ≡ false → suc (length ms) ≤ open_positions t (round k t n)
  fewer_awake p ms cost g awake =
      subst (λ (x : ℕ). x ≤ open_positions t (round k t n)) (length_held t p ms)
      (pigeons (is_open t (round k t n)) (length t.rows) (stops true t p ms) (stops_distinct true p ms g) (stops_open true p ms cost g (λ e. awake)))
