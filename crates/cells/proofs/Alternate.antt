-- Two lists of cells, written by turns.
use Rattle.std.proofs.Common.{◌≡◌, ℕ, suc, List, ◌++◌, length, take, drop, sym, ap, ◌∙◌, subst, ap₂}
use Rattle.std.specs.List.{range_with_len}
use Rattle.board.specs.Table.{Table}
use Rattle.cost.specs.Kind.{Kind}
use Rattle.cost.specs.Laws.{CostLaws}
use Rattle.game.specs.Rounds.{FixedPoint}
use Rattle.cells.specs.Cells.{written_over, solved_cells}
use Rattle.cells.specs.Written.{round_cell, Holds}
use Rattle.cells.specs.declared.parts.Cell.{Cell}
use Rattle.cells.proofs.Sweeps.{front_take, front_drop, finals}

module _ {C : Type 0} (k : Kind C) (t : Table) where
  -- a list over which the cells of round n are written holds them
  pub over_holds : (n : ℕ) (old list : List Cell) → list ≡ written_over t (round_cell k t n) old → Holds k t n list
  over_holds n old list e = ap (take (length t.rows)) e ∙ front_take (round_cell k t n) (length t.rows) old

  pub over_next : (n m : ℕ) (old list : List Cell) → m ≡ suc n → list ≡ written_over t (round_cell k t (suc n)) old → Holds k t m list
  over_next n m old list next e = subst (λ (i : ℕ). Holds k t i list) (sym next) (over_holds (suc n) old list e)

  pub over_drop : (f : ℕ → Cell) (old list : List Cell) → list ≡ written_over t f old → drop (length t.rows) list ≡ drop (length t.rows) old
  over_drop f old list e = ap (drop (length t.rows)) e ∙ front_drop f (length t.rows) old

-- the last round changed nothing, and the list that it wrote is copied to the other
module _ {C : Type 0} (k : Kind C) (laws : CostLaws k) (t : Table) (n : ℕ) (fixed : FixedPoint k t n) where
  pub written : (old was list : List Cell) → drop (length t.rows) was ≡ drop (length t.rows) old → list ≡ written_over t (round_cell k t (suc n)) was → list ≡ solved_cells k t n old
  written old was list e p = p ∙ ap₂ (λ (x y : List Cell). x ++ y) (finals k laws t n fixed (range_with_len 0 (length t.rows))) e

  pub copied : (old was other list : List Cell) → drop (length t.rows) was ≡ drop (length t.rows) old → Holds k t (suc n) other → list ≡ take (length t.rows) other ++ drop (length t.rows) was
      → list ≡ solved_cells k t n old
  copied old was other list e h p = p ∙ ap₂ (λ (x y : List Cell). x ++ y) (h ∙ finals k laws t n fixed (range_with_len 0 (length t.rows))) e
