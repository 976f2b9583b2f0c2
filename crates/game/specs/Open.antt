-- F, the number of open positions: those that have a cost and do not rest.
use Rattle.std.specs.Prelude.{ℕ, Bool, not, ◌&&◌, length, Option}
use Rattle.board.specs.Table.{Table, row_at}
use Rattle.orders.specs.Counting.{count}
use Rattle.game.specs.Values.{is_cost}

-- whether p is open by the values w
abbrev pub is_open : {C : Type 0} → Table → (ℕ → Option C) → ℕ → Bool
is_open t w p = is_cost (w p) && not (row_at t p).rests

abbrev pub open_positions : {C : Type 0} → Table → (ℕ → Option C) → ℕ
open_positions t w = count (is_open t w) (length t.rows)
