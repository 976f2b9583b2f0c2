use Rattle.std.proofs.Common.{◌≡◌, ◌-◌, drop, length, sym, refl, ◌∙◌, rules, arith}
use Rattle.std.proofs.lemmas.List.{length-drop, length-take-le}
use Rattle.sheet_format.specs.Lines.{count_from, absent_position}
use Rattle.sheet_format.proofs.Sorted.{none_before}
use Rattle.sheet.proofs.Spans.{before_next, write_next, run_of}
use Rattle.sheet.proofs.tables.write_positions.Goals as goal

pub loop-p-init : goal.loop-p-init
loop-p-init c = (omega arith, sym (none_before 0 0 c.args.moves.now (omega arith) c.requires.1.1.1), refl)

pub loop-p-preserved : goal.loop-p-preserved
loop-p-preserved c =
    let ms = c.args.moves.now in
    let p = c.loop-p.p in
    let first = c.loop-p.invariant.1 in
    let degree : c.run_len-degree.result ≡ count_from p ms = c.run_len-degree.ensures.run ∙ run_of p ms c.loop-p.first 0 first c.requires.1.1.1 in (
      omega (arith, c.run_len-degree.ensures.within, length-drop c.loop-p.first ms, length-take-le (length ms - c.loop-p.first) (drop c.loop-p.first ms) (omega (arith, length-drop c.loop-p.first ms))),
      omega (arith, degree, first, before_next p ms),
      rw c.loop-p.invariant.2 (write_next ms c.args.positions.now c.args.table.now p _ absent_position c.loop-p-test.true (omega arith) (search rules)),
    )
