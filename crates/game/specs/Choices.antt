-- The chosen moves, and the round in which a value first stood.
use Rattle.std.specs.Prelude.{ℕ, zero, suc, cond, None, Option}
use Rattle.board.specs.Table.{Row, Table, row_at}
use Rattle.board.specs.declared.parts.Turn.{Turn}
use Rattle.board.specs.declared.parts.Turn.TheVariants.{Arm, Person}
use Rattle.cost.specs.Kind.{Kind}
use Rattle.orders.specs.Lowest.{lowest}
use Rattle.game.specs.Values.{value_leq}
use Rattle.game.specs.Rounds.{round, value_through}

-- the first round in which the value that p has after round n stood: the last one in which it fell; 0 for none
unfoldable pub first_round : {C : Type 0} → Kind C → Table → ℕ → ℕ → ℕ
first_round k t zero p = 0
first_round k t (suc n) p = cond (value_leq k (round k t n p) (round k t (suc n) p)) (first_round k t n p) (suc n)

-- the arm's choice: the lowest move that gave the value v in round j, its first
abbrev pub arm_choice : {C : Type 0} → Kind C → Table → Option C → ℕ → Row → Option ℕ
arm_choice k t v zero r = None
arm_choice k t v (suc j) r = lowest (λ s. value_leq k (value_through k (round k t j) s) v) r.moves

-- the person's choice: the lowest move through which the value is greatest by w, v being the greatest
abbrev pub person_choice : {C : Type 0} → Kind C → (ℕ → Option C) → Option C → Row → Option ℕ
person_choice k w v r = lowest (λ s. value_leq k v (value_through k w s)) r.moves

-- the choice of the one who moves at p
abbrev pub choice_of : {C : Type 0} → Kind C → Table → ℕ → ℕ → Turn → Option ℕ
choice_of k t n p Arm = arm_choice k t (round k t n p) (first_round k t n p) (row_at t p)
choice_of k t n p Person = person_choice k (round k t n) (round k t n p) (row_at t p)

-- the chosen move at p, where the values of round n are final; none at rest
unfoldable pub chosen : {C : Type 0} → Kind C → Table → ℕ → ℕ → Option ℕ
chosen k t n p = cond (row_at t p).rests None (choice_of k t n p (row_at t p).turn)
