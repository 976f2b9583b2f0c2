use Rattle.std.proofs.Common.{string_bytes}
use Rattle.std.proofs.lemmas.Result.{on_ok_weaker}
use Rattle.report.proofs.PlanListing.{appends}
use Rattle.report.proofs.kinds.push_kind.Goals as goal

pub returns : goal.returns
returns g c =
    let board = c.args.board.now in
    on_ok_weaker c.push_listing-listed.result
    (appends g.C.Cost.kind g.met.C.Cost.laws (g.B.Board.meaning board) (g.B.Board.ranges board) g.C.Named.KIND c.args.start _ c.in-Ok.plan c.in-Ok.ensures.plan (string_bytes c.args.out.now) (string_bytes c.push_listing-listed.new.out))
    c.push_listing-listed.ensures
