use Rattle.std.proofs.lemmas.Result.{err_from_is_err_and}
use Rattle.load.proofs.Benches.{is_bench, no_bench}
use Rattle.load.proofs.reading.load.Goals as goal

pub returns-in_err-joined : goal.returns-in_err-joined
returns-in_err-joined c =
    let p = err_from_is_err_and c.from_residual-in_err-joined.result c.from_residual-in_err-joined.ensures.1 in
    rw (p.1, p.2) (no_bench _ _ c.in_ok-tables.ensures _ c.in_err-joined.ensures)

pub returns : goal.returns
returns c = is_bench _ _ c.in_ok-tables.ensures _ c.in_ok-joined.ensures
