-- The rounds: the value of each position, worked out again and again from the round before.
use Rattle.std.specs.Prelude.{◌≡◌, ℕ, zero, suc, ◌<◌, cond, List, map, Some, None, Option}
use Rattle.board.specs.Table.{Row, Table, row_at}
use Rattle.board.specs.declared.parts.Step.{Step}
use Rattle.board.specs.declared.parts.Turn.{Turn}
use Rattle.board.specs.declared.parts.Turn.TheVariants.{Arm, Person}
use Rattle.cost.specs.Kind.{Kind}
use Rattle.orders.specs.Extremes.{least, greatest}
use Rattle.game.specs.Values.{value_leq, value_add}

-- a move's charge
abbrev pub charge_of : {C : Type 0} → Kind C → Step → C
charge_of k s = k.charge s.bruise s.energy

-- the value through a move: its charge added to the value of its target
abbrev pub value_through : {C : Type 0} → Kind C → (ℕ → Option C) → Step → Option C
value_through k w s = value_add k (charge_of k s) (w s.target)

-- the arm takes the least value, the person the greatest; none where there is no move
abbrev pub best : {C : Type 0} → Kind C → Turn → List (Option C) → Option C
best k Arm vs = least (value_leq k) None vs
best k Person vs = greatest (value_leq k) None vs

-- the value of a row, from the values w of the round before; zero at rest
abbrev pub row_value : {C : Type 0} → Kind C → (ℕ → Option C) → Row → Option C
row_value k w r = cond r.rests (Some k.zero) (best k r.turn (map (value_through k w) r.moves))

-- the value of position p after round n; in round 0 only a resting position has one
unfoldable pub round : {C : Type 0} → Kind C → Table → ℕ → ℕ → Option C
round k t zero p = cond (row_at t p).rests (Some k.zero) None
round k t (suc n) p = row_value k (round k t n) (row_at t p)

-- one more round than n changes nothing
abbrev pub FixedPoint : {C : Type 0} → Kind C → Table → ℕ → Type 0
FixedPoint k t n = (p : ℕ) → round k t (suc n) p ≡ round k t n p

-- the number of rounds is the least n that is so; the values of round n are final
pub record NumberOfRounds {C : Type 0} (k : Kind C) (t : Table) (n : ℕ) : Type 0 where
  pub fixed : FixedPoint k t n
  pub least : (m : ℕ) → m < n → FixedPoint k t m → ⊥
