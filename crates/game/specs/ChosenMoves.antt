-- Theorem: the first rounds and the chosen moves are what their names say.
use Rattle.std.specs.Prelude.{◌≡◌, ℕ, suc, ◌<◌, true, false, [], Some, None, ◌≢◌}
use Rattle.board.specs.Table.{Table, row_at}
use Rattle.board.specs.declared.parts.Turn.TheVariants.{Arm, Person}
use Rattle.cost.specs.Kind.{Kind}
use Rattle.game.specs.Choices.{first_round, chosen}
use Rattle.game.specs.Plays.{degree, move_of, Allowed}
use Rattle.game.specs.Rounds.{value_through, round, FixedPoint}
use Rattle.game.specs.Strategies.{ToMove}
use Rattle.game.specs.Values.{value_leq, is_cost}

-- the least round in which p has the value of round n
pub record FirstRound {C : Type 0} (k : Kind C) (t : Table) (n p : ℕ) : Type 0 where
  pub stands : round k t (first_round k t n p) p ≡ round k t n p
  pub not_before : (m : ℕ) → m < first_round k t n p → round k t m p ≢ round k t n p
  pub none_is_zero : round k t n p ≡ None → first_round k t n p ≡ 0

-- the arm's: the lowest move that gave the cost in the round in which it first stood
pub record ArmChooses {C : Type 0} (k : Kind C) (t : Table) (n p : ℕ) : Type 0 where
  pub move : ℕ
  pub is : chosen k t n p ≡ Some move
  pub there : move < degree t p
  pub before : ℕ
  pub since : first_round k t n p ≡ suc before
  pub gave : value_through k (round k t before) (move_of t p move) ≡ round k t n p
  pub lowest : (m : ℕ) → m < move → value_through k (round k t before) (move_of t p m) ≢ round k t n p

-- the person's: the lowest move through which the final value is greatest
pub record PersonChooses {C : Type 0} (k : Kind C) (t : Table) (n p : ℕ) : Type 0 where
  pub move : ℕ
  pub is : chosen k t n p ≡ Some move
  pub there : move < degree t p
  pub greatest : (m : ℕ) → m < degree t p → value_leq k (value_through k (round k t n) (move_of t p m)) (value_through k (round k t n) (move_of t p move)) ≡ true
  pub lowest : (m : ℕ) → m < move → value_leq k (value_through k (round k t n) (move_of t p move)) (value_through k (round k t n) (move_of t p m)) ≡ false

-- who chooses, and where there is no choice: at rest, without moves, and on the arm's turn without a cost
pub record Chooses {C : Type 0} (k : Kind C) (t : Table) (n p : ℕ) : Type 0 where
  pub first : FirstRound k t n p
  pub allowed : (m : ℕ) → chosen k t n p ≡ Some m → Allowed t p m
  pub at_rest : (row_at t p).rests ≡ true → chosen k t n p ≡ None
  pub no_moves : (row_at t p).moves ≡ [] → chosen k t n p ≡ None
  pub no_cost : (row_at t p).turn ≡ Arm → round k t n p ≡ None → chosen k t n p ≡ None
  pub arm : ToMove t p Arm → is_cost (round k t n p) ≡ true → ArmChooses k t n p
  pub person : ToMove t p Person → 0 < degree t p → PersonChooses k t n p

abbrev pub MovesAreChosen : {C : Type 0} → Kind C → Type 0
MovesAreChosen k = (t : Table) (n : ℕ) → FixedPoint k t n → (p : ℕ) → Chooses k t n p
