use Rattle.std.proofs.Common.{◌≡◌, ◌≤◌, [], take, Ok}
use Rattle.sheet_format.specs.Reading.{next_line, counted_lines, header}
use Rattle.sheet.specs.Takes.{left_of}
use Rattle.sheet.proofs.reader.Reader.read_section.Given as goal

abbrev pub invariant-loop-i : goal.invariant-loop-i
invariant-loop-i g l = (l.count ≤ l.fn.high) × (l.self.sheet ≡ l.fn.self.sheet) × (next_line (header l.fn.name l.fn.low l.fn.high l.fn.room) (left_of l.fn.self) ≡ Ok (l.count, left_of l.initial.self)) × (counted_lines l.i (g.K.LineKind.reading l.kind) [] (left_of l.initial.self) ≡ Ok (take l.i l.table, left_of l.self))
