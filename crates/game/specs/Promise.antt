-- The promise: what is had of a solved board, whoever wrote the board and the cost kind.
-- It speaks of the board, the cost kind and what solving handed back, and of nothing that solving does.
use Rattle.std.specs.Prelude.{◌≡◌, ℕ, ◌≤◌, min, true, List, [], length, Some, Option}
use Rattle.board.specs.Table.{Table, row_at}
use Rattle.cost.specs.Kind.{Kind}
use Rattle.orders.specs.Counting.{Distinct}
use Rattle.game.specs.Events.{after_events, accepted}
use Rattle.game.specs.Open.{open_positions}
use Rattle.game.specs.Plays.{Allowed, Play, endpoint, held, play_cost}
use Rattle.game.specs.Progress.{begun}
use Rattle.game.specs.Strategies.{Strategy, ArmStrategy, PersonStrategy, play_of, plan_strategy}
use Rattle.game.specs.Values.{value_leq}
use Rattle.game.specs.declared.parts.Event.{Event}
use Rattle.game.specs.declared.parts.Phase.TheVariants.{Ended}
use Rattle.game.specs.declared.parts.Progress.{Progress}

-- what solving handed back: how many rounds, and of each position its cost or none and its chosen move or none
pub record Solved (C : Type 0) : Type 0 where
  pub rounds : ℕ
  pub cost : ℕ → Option C
  pub move : ℕ → Option ℕ

-- a run from the start by the chosen moves, after a list of events, and the moves that these make
abbrev pub run_after : {C : Type 0} → Kind C → Table → Solved C → List Event → Progress C
run_after k t s es = after_events k t (length t.rows) s.move (begun k t t.start) es

abbrev pub run_moves : {C : Type 0} → Kind C → Table → Solved C → List Event → List ℕ
run_moves k t s es = accepted k t (length t.rows) s.move (begun k t t.start) es

-- a play from p that rests after at most n moves, for at most w
pub record Rests {C : Type 0} (k : Kind C) (t : Table) (p n : ℕ) (w : C) (ms : List ℕ) : Type 0 where
  pub played : Play t p ms
  pub rested : (row_at t (endpoint t p ms)).rests ≡ true
  pub short : length ms ≤ n
  pub pays : k.leq (play_cost k t p ms) w ≡ true

-- a run that has come to r by the moves ms from the start, whose cost is w
pub record Covered {C : Type 0} (k : Kind C) (t : Table) (s : Solved C) (w : C) (ms : List ℕ) (r : Progress C) : Type 0 where
  -- what it has spent, with the cost of where it stands, is within w
  pub covered : (v : C) × (s.cost r.position ≡ Some v) × (k.leq (k.add r.spent v) w ≡ true)
  -- at most F moves, and no position twice
  pub few : length ms ≤ open_positions t s.cost
  pub distinct : Distinct (held t t.start ms)
  -- its moves are a play; it stands where that leads, has spent its cost and counts its moves
  pub played : Play t t.start ms
  pub stands : r.position ≡ endpoint t t.start ms
  pub spends : r.spent ≡ play_cost k t t.start ms
  pub counts : r.made ≡ min (length ms) 4294967295
  -- it is ended exactly at rest
  pub ends : r.phase ≡ Ended → (row_at t r.position).rests ≡ true
  pub rests : (row_at t r.position).rests ≡ true → r.phase ≡ Ended

-- F is the number of open positions
pub record Promise {C : Type 0} (k : Kind C) (t : Table) (budget : C) (s : Solved C) : Type 0 where
  pub few_rounds : s.rounds ≤ open_positions t s.cost
  -- the arm by the plan's moves, against every person: it rests within F moves and pays at most the cost of p
  pub plan : (p : ℕ) (w : C) → s.cost p ≡ Some w → (person : Strategy) → PersonStrategy t p person
      → Rests k t p (open_positions t s.cost) w (play_of t (plan_strategy t s.move p) person (open_positions t s.cost) p [])
  -- a chosen move may be made, and who makes the chosen moves is a person, so the next line is about one
  pub moves : (p m : ℕ) → s.move p ≡ Some m → Allowed t p m
  pub answers : (p : ℕ) → PersonStrategy t p (plan_strategy t s.move p)
  -- the person by the chosen moves, against every arm: a play that rests costs at least the cost of p; none is above every cost, so from a position without one no play rests
  pub reply : (p : ℕ) (arm : Strategy) → ArmStrategy t p arm → (n : ℕ)
      → (row_at t (endpoint t p (play_of t arm (plan_strategy t s.move p) n p []))).rests ≡ true
      → value_leq k (s.cost p) (Some (play_cost k t p (play_of t arm (plan_strategy t s.move p) n p []))) ≡ true
  -- a run within the budget, for every list of events, on a board that means the same
  pub run : (w : C) → s.cost t.start ≡ Some w → k.leq w budget ≡ true → (es : List Event)
      → Covered k t s w (run_moves k t s es) (run_after k t s es)
