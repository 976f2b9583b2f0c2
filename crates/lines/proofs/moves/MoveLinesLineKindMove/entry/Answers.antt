use Rattle.std.proofs.Common.{reverse}
use Rattle.std.proofs.lemmas.Result.{err_from_is_err_and}
use Rattle.sheet_format.specs.Cuts.{words}
use Rattle.lines.proofs.Before.{refused_line}
use Rattle.lines.proofs.moves.MoveLinesLineKindMove.entry.Goals as goal

pub returns-in_err-m : goal.returns-in_err-m
returns-in_err-m c =
    let p = err_from_is_err_and c.from_residual.result c.from_residual.ensures.1 in
    rw (p.1, p.2) (refused_line c.args.self.now.positions.now (reverse c.args.before.now) (words c.args.line.now.bytes.now) _ c.in_err-m.ensures)
