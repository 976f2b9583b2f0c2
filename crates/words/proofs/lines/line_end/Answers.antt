use Rattle.words.proofs.Cutting.{line_found, line_unended}
use Rattle.words.proofs.lines.line_end.Goals as goal

pub returns-in_err-length : goal.returns-in_err-length
returns-in_err-length c =
    let found = c.in_ok-rest.ensures.lookup.0 in
    rw c.from_residual-in_err-length.ensures (line_unended c.args.sheet.now c.args.from _ found.2 c.in_err-length.ensures)

pub returns : goal.returns
returns c =
    let found = c.in_ok-rest.ensures.lookup.0 in
    line_found c.args.sheet.now c.args.from _ _ found.0 found.2 c.in_ok-length.ensures
