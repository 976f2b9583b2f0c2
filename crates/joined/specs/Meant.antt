-- What a board and a task, joined, mean: a meaning for every board and every task.
use Rattle.std.specs.Prelude.{◌≡◌, ℕ, ◌*◌, ◌/◌, ◌≤◌, cond, length, Some, None, Option, nat_le}
use Rattle.std.specs.Option.{option_map_or}
use Rattle.std.proofs.lemmas.Bool.{cond_both, leb-true}
use Rattle.board.specs.Table.{Table}
use Rattle.board.specs.Ranges.{InRange}
use Rattle.task.specs.Dfa.{Dfa, DfaInRange}
use Rattle.product.specs.Joins.{IsJoin}
use Rattle.product.specs.Product.{joined}
use Rattle.product.proofs.Rows.{joined_in_range}

-- how many positions a join has
abbrev pub join_size : Table → Dfa → ℕ
join_size t d = length t.rows * d.states

-- the join, or the board below where the join would have more than 4,096 positions
abbrev pub meant : Table → Dfa → Table
meant t d = cond (nat_le (join_size t d) 4096) (joined t d) t

pub meant_in_range : (t : Table) (d : Dfa) → InRange t → DfaInRange d → InRange (meant t d)
meant_in_range t d fair sound =
    cond_both (nat_le (join_size t d) 4096) (joined t d) t InRange (λ e. joined_in_range t d fair sound (leb-true (join_size t d) 4096 e)) (λ _. fair)

-- the join has at most 4,096 positions, so that it is what the board and the task mean
pub record Room (t : Table) (d : Dfa) : Type 0 where
  pub few : join_size t d ≤ 4096
  pub whole : meant t d ≡ joined t d
  pub joins : IsJoin t d (meant t d)

-- the number of states, where the join has at most 4,096 positions
abbrev pub width_of : Table → Dfa → Option ℕ
width_of t d = cond (nat_le (join_size t d) 4096) (Some d.states) None

-- the position below that position i stands for
abbrev pub below_of : Table → Dfa → ℕ → ℕ
below_of t d i = option_map_or (λ n. i / n) (width_of t d) i
