-- What a flat board means.
use Rattle.std.proofs.Math.Logic.{∥∥₁_elim}
use Rattle.std.specs.Prelude.{vec_items}
use Rattle.board.specs.Ranges.{InRange}
use Rattle.board.specs.Table.{Table}
use Rattle.flat.specs.declared.holder.FlatBoard.{FlatBoard}
use Rattle.flat.specs.Flat.{flat_table}
use Rattle.flat.specs.Ranges.{in_range_prop}

-- what a flat board means: the table that its lists hold
abbrev pub flat_meaning : FlatBoard → Table
flat_meaning b = flat_table (vec_items b.rows) (vec_items b.steps) b.start

pub flat_ranges : (b : FlatBoard) → InRange (flat_meaning b)
flat_ranges b = ∥∥₁_elim b.within (in_range_prop (flat_meaning b)) (λ h. h)
