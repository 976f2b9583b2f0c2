-- Tables that hold a board, and the test that tells them.
use Rattle.std.specs.Prelude.{ℕ, ◌+◌, ◌≤◌, Bool, true, cond, ◌&&◌, List, length, take, drop, ◌==◌, nat_le, nat_lt}
use Rattle.std.specs.List.{All, list_all}
use Rattle.board.specs.declared.parts.Turn.{Turn}
use Rattle.board.specs.Ranges.{InRange}
use Rattle.entries.specs.declared.Move.{Move}
use Rattle.entries.specs.declared.PositionEntry.{PositionEntry}
use Rattle.sheet_format.specs.Boards.{tables_board}
use Rattle.sheet_format.specs.Lines.{is_person}

-- the tables hold a board: it is within the ranges, and the moves of each entry lie inside the move table
pub record TablesHold (es : List PositionEntry) (ms : List Move) (start : ℕ) : Type 0 where
  pub ranges : InRange (tables_board es ms start)
  pub inside : All (λ e. e.first + e.degree ≤ length ms) es

-- a move to one of n positions, within the ranges, free if it is a person's
abbrev pub move_fits : ℕ → Turn → Move → Bool
move_fits n turn m = nat_lt m.to n && (nat_le m.bruise 1000 && (nat_le m.energy 1000000 && cond (is_person turn) (m.bruise == 0 && m.energy == 0) true))

-- the moves of an entry
abbrev pub span : List Move → PositionEntry → List Move
span ms e = take e.degree (drop e.first ms)

-- an entry of a board of n positions
abbrev pub entry_fits : ℕ → List Move → PositionEntry → Bool
entry_fits n ms e = nat_lt e.position.label 65536 && (nat_le e.degree 64 && (nat_le (e.first + e.degree) (length ms) && list_all (move_fits n e.position.turn) (span ms e)))

-- the test of two tables and a start
abbrev pub tables_fit : List PositionEntry → List Move → ℕ → Bool
tables_fit es ms start = nat_le (length es) 4096 && (nat_lt start (length es) && list_all (entry_fits (length es) ms) es)
