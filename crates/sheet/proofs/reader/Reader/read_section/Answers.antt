use Rattle.std.proofs.Common.{◌≡◌, reverse, take, Err, refl, ◌∙◌, rules, arith}
use Rattle.std.proofs.lemmas.Result.{err_from_is_err_and}
use Rattle.sheet_format.specs.Reading.{next_line, header}
use Rattle.sheet.specs.Takes.{left_of}
use Rattle.sheet.proofs.Loops.{header_most, table_push, section_stop}
use Rattle.sheet.proofs.reader.Reader.read_section.Goals as goal

pub loop-i-init : goal.loop-i-init
loop-i-init g c =
    let t = c.in_ok-count.ensures (header c.args.name.now c.args.low c.args.high c.args.room) (λ line r k. search rules) in
    (header_most c.args.name.now c.args.low c.args.high c.args.room (left_of c.args.self.now) (left_of c.read_line.new.self) c.in_ok-count.field-0 t.0, t.1, t.0, refl)

pub returns-in_err-table : goal.returns-in_err-table
returns-in_err-table g c =
    let p = err_from_is_err_and c.from_residual-in_err-table.result c.from_residual-in_err-table.ensures.1 in
    let f = g.K.LineKind.reading c.args.kind.now in
    let h : next_line (f (reverse (take c.loop-i.i c.loop-i.table))) (left_of c.loop-i.self) ≡ Err c.in_err-table.field-0.0 = c.in_err-table.ensures (f (reverse (take c.loop-i.i c.loop-i.table))) (λ line r k. search rules) in
    rw (p.1, p.2) (section_stop f c.args.name.now c.args.low c.args.high c.args.room c.loop-i.i _ c.loop-i.table (left_of c.args.self.now) (left_of c.read_line.new.self) (left_of c.loop-i.self) _ c.loop-i.invariant.2 c.loop-i-test.true c.loop-i.invariant.3 h)

pub loop-i-preserved : goal.loop-i-preserved
loop-i-preserved g c =
    let f = g.K.LineKind.reading c.args.kind.now in
    let h = c.in_ok-table.ensures (f (reverse (take c.loop-i.i c.loop-i.table))) (λ line r k. search rules) in (
      c.loop-i.invariant.0,
      h.1 ∙ c.loop-i.invariant.1,
      c.loop-i.invariant.2,
      table_push f c.loop-i.i c.loop-i.table (left_of c.read_line.new.self) (left_of c.loop-i.self) (left_of c.read_line-in-loop-i.new.self) c.in_ok-table.field-0 (omega arith) c.loop-i.invariant.3 h.0,
    )
