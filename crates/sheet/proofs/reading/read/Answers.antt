use Rattle.std.proofs.lemmas.Result.{err_from_is_err_and}
use Rattle.sheet.proofs.Accepted.{spells_none, spells_one}
use Rattle.sheet.proofs.reading.read.Goals as goal

pub returns-in_err-outline-clause-spelled : goal.returns-in_err-outline-clause-spelled
returns-in_err-outline-clause-spelled c =
    let p = err_from_is_err_and c.from_residual.result c.from_residual.ensures.1 in
    rw p.1 (spells_none _ c.args.sheet.now _ c.in_err-outline.ensures)

pub returns-clause-spelled : goal.returns-clause-spelled
returns-clause-spelled c = let got = c.in_ok-outline.ensures in spells_one _ c.args.sheet.now _ _ got.0 got.1.within
