use Rattle.std.proofs.Common.{◌≡◌, ◌++◌, string_bytes}
use Rattle.cells.specs.Said.{plan_cell}
use Rattle.listing.specs.Listing.{position_lines}
use Rattle.listing.proofs.lines.push_listing.Given as goal

abbrev pub invariant-loop-p : goal.invariant-loop-p
invariant-loop-p g l =
    string_bytes l.out ≡ string_bytes l.initial.out ++ position_lines g.C.Named.KIND (g.B.Board.meaning l.board) (plan_cell l.plan.count l.plan.cells.now) l.p
