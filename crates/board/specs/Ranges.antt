-- The ranges of a board.
use Rattle.std.specs.Prelude.{◌≡◌, ℕ, ◌<◌, ◌≤◌, length}
use Rattle.board.specs.declared.parts.Step.{Step}
use Rattle.board.specs.declared.parts.Turn.{Turn}
use Rattle.board.specs.declared.parts.Turn.TheVariants.{Person}
use Rattle.board.specs.Table.{Row, Table, row_at, move_at}

-- a move of a board of n positions; a person's move is free
pub record MoveInRange (n : ℕ) (turn : Turn) (s : Step) : Type 0 where
  pub lands : s.target < n
  pub bruise_top : s.bruise ≤ 1000
  pub energy_top : s.energy ≤ 1000000
  pub person_free : turn ≡ Person → (s.bruise ≡ 0) × (s.energy ≡ 0)

-- a position of a board of n positions
pub record RowInRange (n : ℕ) (r : Row) : Type 0 where
  pub label_top : r.label < 65536
  pub degree_top : length r.moves ≤ 64
  pub each_move : (k : ℕ) → k < length r.moves → MoveInRange n r.turn (move_at r k)

-- a board has 1 to 4,096 positions, the start among them
pub record InRange (t : Table) : Type 0 where
  pub few : length t.rows ≤ 4096
  pub starts : t.start < length t.rows
  pub each_row : (p : ℕ) → p < length t.rows → RowInRange (length t.rows) (row_at t p)
