-- Theorem: rounds never rise.
use Rattle.std.specs.Prelude.{◌≡◌, ℕ, suc, true, Option}
use Rattle.board.specs.Table.{Row, Table}
use Rattle.cost.specs.Kind.{Kind}
use Rattle.game.specs.Rounds.{row_value, round}
use Rattle.game.specs.Values.{value_leq}

pub record RoundsNeverRise {C : Type 0} (k : Kind C) : Type 0 where
  -- from lower values a round makes lower values
  pub monotone : (w v : ℕ → Option C) → ((p : ℕ) → value_leq k (w p) (v p) ≡ true) → (r : Row) → value_leq k (row_value k w r) (row_value k v r) ≡ true
  -- the value of a position is never above that of the round before
  pub never_rise : (t : Table) (n p : ℕ) → value_leq k (round k t (suc n) p) (round k t n p) ≡ true
