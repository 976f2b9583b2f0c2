-- The cells that each round writes.
use Rattle.std.specs.Prelude.{◌≡◌, ℕ, zero, suc, Bool, true, false, cond, List, map, length, take, None, Option, slice_index_or}
use Rattle.std.specs.List.{range_with_len}
use Rattle.std.specs.Option.{option_map}
use Rattle.board.specs.Table.{Table, row_at}
use Rattle.board.specs.declared.parts.Turn.{Turn}
use Rattle.board.specs.declared.parts.Turn.TheVariants.{Arm, Person}
use Rattle.cost.specs.Kind.{Kind}
use Rattle.game.specs.Choices.{first_round, arm_choice, person_choice}
use Rattle.game.specs.Rounds.{round, FixedPoint}
use Rattle.cells.specs.Cells.{empty_cell}
use Rattle.cells.specs.declared.parts.Cell.{Cell}

-- the choice of the one who moves at p in round n + 1: an arm's by the first round of its value, a person's by the values that the round reads
abbrev pub choice_in : {C : Type 0} → Kind C → Table → ℕ → ℕ → Turn → Option ℕ
choice_in k t n p Arm = arm_choice k t (round k t (suc n) p) (first_round k t (suc n) p) (row_at t p)
choice_in k t n p Person = person_choice k (round k t n) (round k t (suc n) p) (row_at t p)

-- the choice in the cell of p after round n; none in round 0, and at rest
unfoldable pub round_choice : {C : Type 0} → Kind C → Table → ℕ → ℕ → Option ℕ
round_choice k t zero p = None
round_choice k t (suc n) p = cond (row_at t p).rests None (choice_in k t n p (row_at t p).turn)

-- the cell of p after round n
abbrev pub round_cell : {C : Type 0} → Kind C → Table → ℕ → ℕ → Cell
round_cell k t n p = record { cost = option_map k.numbers (round k t n p); choice = round_choice k t n p; round = first_round k t n p }

-- the first cells of a list are those after round n
abbrev pub Holds : {C : Type 0} → Kind C → Table → ℕ → List Cell → Type 0
Holds k t n cells = take (length t.rows) cells ≡ map (round_cell k t n) (range_with_len 0 (length t.rows))

-- the values that the first n cells of a list stand for; none past them
abbrev pub values_of : {C : Type 0} → Kind C → ℕ → List Cell → ℕ → Option C
values_of k n cells p = option_map k.read (slice_index_or (take n cells) p empty_cell).cost

-- whether round n + 1 changed a value
pub record Tells {C : Type 0} (k : Kind C) (t : Table) (n : ℕ) (changed : Bool) : Type 0 where
  pub same : changed ≡ false → FixedPoint k t n
  pub other : changed ≡ true → FixedPoint k t n → ⊥
