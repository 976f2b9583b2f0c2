use Rattle.std.proofs.Common.{◌≡◌, ◌≤◌, ◌++◌, length, take, drop}
use Rattle.sheet_format.specs.Boards.{entries_from, count_before}
use Rattle.sheet.proofs.tables.write_positions.Given as goal

abbrev pub invariant-loop-p : goal.invariant-loop-p
invariant-loop-p l = (l.first ≤ length l.moves) × (l.first ≡ count_before l.p l.moves) × (l.table ≡ entries_from l.moves 0 (take l.p l.positions) ++ drop l.p l.initial.table)
