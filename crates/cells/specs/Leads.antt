-- The best move of a position.
use Rattle.std.specs.Prelude.{◌≡◌, ℕ, Bool, map, Option}
use Rattle.board.specs.Table.{Row}
use Rattle.board.specs.declared.parts.Turn.{Turn}
use Rattle.board.specs.declared.parts.Turn.TheVariants.{Arm, Person}
use Rattle.cost.specs.Kind.{Kind}
use Rattle.orders.specs.Lowest.{lowest}
use Rattle.game.specs.Rounds.{value_through, best}
use Rattle.game.specs.Values.{value_leq}
use Rattle.cells.specs.declared.parts.Lead.{Lead}

-- the order of the one who moves: x is no worse than y
unfoldable pub turn_leq : {C : Type 0} → Kind C → Turn → Option C → Option C → Bool
turn_leq k Arm x y = value_leq k x y
turn_leq k Person x y = value_leq k y x

-- the best value of a row by the values w, and the lowest move through which it comes
pub record Leads {C : Type 0} (k : Kind C) (w : ℕ → Option C) (r : Row) (l : Lead C) : Type 0 where
  pub value : l.value ≡ best k r.turn (map (value_through k w) r.moves)
  pub choice : l.choice ≡ lowest (λ s. turn_leq k r.turn (value_through k w s) l.value) r.moves
