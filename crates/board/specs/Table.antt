-- A board as the finite table of its answers.
use Rattle.std.specs.Prelude.{ℕ, Bool, false, List, [], slice_index_or}
use Rattle.board.specs.declared.parts.Step.{Step}
use Rattle.board.specs.declared.parts.Turn.{Turn}
use Rattle.board.specs.declared.parts.Turn.TheVariants.{Arm}

-- a position: who moves, the sum of 2 ^ sign over its signs, whether it is a resting place, its moves by number
pub record Row : Type 0 where
  pub turn : Turn
  pub label : ℕ
  pub rests : Bool
  pub moves : List Step

-- position p is row p
pub record Table : Type 0 where
  pub start : ℕ
  pub rows : List Row

-- the row of a position that is not there: no rest and no move
abbrev pub absent_row : Row
absent_row = record { turn = Arm; label = 0; rests = false; moves = [] }

abbrev pub row_at : Table → ℕ → Row
row_at t p = slice_index_or t.rows p absent_row

-- the move that stands for one that is not there
abbrev pub absent_move : Step
absent_move = record { target = 0; bruise = 0; energy = 0 }

abbrev pub move_at : Row → ℕ → Step
move_at r k = slice_index_or r.moves k absent_move
