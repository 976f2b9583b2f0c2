use Rattle.std.proofs.Common.{take, length, ap, ◌∙◌, arith, rules}
use Rattle.std.proofs.lemmas.List.{with_items_is}
use Rattle.std.proofs.lemmas.Result.{err_from_is_err_and}
use Rattle.load.proofs.Sheets.{taken, tables_whole, refused_read}
use Rattle.load.proofs.tables.Tables.read.Goals as goal

pub returns : goal.returns
returns c =
    let e = c.in_ok-outline.ensures in
    let t = taken _ c.args.sheet.now c.in_ok-outline.outline c.read.new.positions _ c.read.new.moves _ c.read.new.states _ c.read.new.arrows _ c.read.new.rules _ (search rules) e.format.only_spellings e.answer e.positions e.moves e.states e.arrows e.rules in
    record {
      sheet = t.sheet;
      reads = t.reads;
      well = t.well;
      positions = c.truncate.ensures.items ∙ ap (take c.in_ok-outline.outline.positions) (with_items_is c.in_ok-positions.positions c.read.new.positions (search rules)) ∙ t.positions;
      moves = c.truncate-2.ensures.items ∙ ap (take c.in_ok-outline.outline.moves) (with_items_is c.in_ok-moves.moves c.read.new.moves (search rules)) ∙ t.moves;
      states = c.truncate-3.ensures.items ∙ ap (take c.in_ok-outline.outline.states) (with_items_is c.in_ok-states.states c.read.new.states (search rules)) ∙ t.states;
      arrows = c.truncate-4.ensures.items ∙ ap (take c.in_ok-outline.outline.arrows) (with_items_is c.in_ok-arrows.arrows c.read.new.arrows (search rules)) ∙ t.arrows;
      rules = c.truncate-5.ensures.items ∙ ap (take c.in_ok-outline.outline.rules) (with_items_is c.in_ok-rules.rules c.read.new.rules (search rules)) ∙ t.rules;
      start = t.start;
    }

pub invariant_of-result : goal.invariant_of-result
invariant_of-result c =
    let e = c.in_ok-outline.ensures in
    let t = taken _ c.args.sheet.now c.in_ok-outline.outline c.read.new.positions _ c.read.new.moves _ c.read.new.states _ c.read.new.arrows _ c.read.new.rules _ (search rules) e.format.only_spellings e.answer e.positions e.moves e.states e.arrows e.rules in
    let most = t.well.rules.most in
    let states = c.truncate-3.ensures.items ∙ ap (take c.in_ok-outline.outline.states) (with_items_is c.in_ok-states.states c.read.new.states (search rules)) ∙ t.states in
    let arrows = c.truncate-4.ensures.items ∙ ap (take c.in_ok-outline.outline.arrows) (with_items_is c.in_ok-arrows.arrows c.read.new.arrows (search rules)) ∙ t.arrows in
    let rules_are = c.truncate-5.ensures.items ∙ ap (take c.in_ok-outline.outline.rules) (with_items_is c.in_ok-rules.rules c.read.new.rules (search rules)) ∙ t.rules in
    record {
      whole = tables_whole t.sheet t.well _ _ states arrows;
      few = omega (arith, ap length rules_are, most);
    }

pub returns-in_err-outline : goal.returns-in_err-outline
returns-in_err-outline c =
    let p = err_from_is_err_and c.from_residual-in_err-outline.result c.from_residual-in_err-outline.ensures.1 in
    rw (p.1, p.2) (refused_read _ c.args.sheet.now _ (search rules) c.in_err-outline.ensures.answer)
