use Rattle.std.proofs.Common.{ℕ, get_or, Option, ap, ◌∙◌, ap₂}
use Rattle.std.specs.Option.{option_map}
use Rattle.cells.specs.Cells.{empty_cell}
use Rattle.cells.proofs.Reading.{solved_value}
use Rattle.solve.specs.Verdicts.{verdict_of}
use Rattle.solve.proofs.solving.solve.Goals as goal

pub returns-in-Ok : goal.returns-in-Ok
returns-in-Ok g c =
    let t = g.B.Board.meaning c.args.board.now in
    let k = g.C.Cost.kind in
    let cells = c.final_cells.new.one in
    let told = c.in-Ok.ensures in
    record {
      plan = record {
        number = told.rounds;
        finals = told.one;
        positions = c.count.ensures;
        starts = c.start-start.ensures;
        allowance = c.numbers.ensures ∙ ap k.numbers c.charge-budget.ensures;
        judged = c.judge-verdict.ensures ∙ ap₂ (λ (b : g.row.C.Denot) (v : Option g.row.C.Denot). verdict_of k b v) c.charge-budget.ensures
            (c.read.ensures ∙ ap (λ (p : ℕ). option_map k.read (get_or cells p empty_cell).cost) c.start-start.ensures
            ∙ solved_value k g.met.C.Cost.laws t c.in-Ok.rounds c.args.one.now cells told.one t.start (g.B.Board.ranges c.args.board.now).starts);
      };
      other = told.two;
      when = told.when;
    }
