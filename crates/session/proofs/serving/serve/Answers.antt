use Rattle.std.proofs.Common.{◌≡◌, ◌∙◌}
use Rattle.session.proofs.Promising.{serves_ended, serves_cut, serves_unbegun, solves_back, other_back}
use Rattle.session.proofs.serving.serve.Goals as goal
use Rattle.session.proofs.serving.serve.Goals.{in-Ok-attend, in-Err-attend}

pub returns-after-attend : goal.returns-after-attend
returns-after-attend g c =
    let k = g.C.Cost.kind in
    let t = g.B.Board.meaning c.args.board.now in
    let solved = c.in_ok-plan.ensures in
    let begun = c.in-Ok.ensures in
    let same : c.end.result ≡ c.in_ok-plan.plan = c.end.ensures ∙ c.attend.ensures.plan ∙ begun.1 in
    record {
      promise = elim c.match-attend.branch [
        | in-Ok-attend w ↦ serves_ended k g.met.C.Cost.laws t c.args.bruise c.args.energy c.args.one.now c.in_ok-plan.plan solved.plan
            _ _ _ _ _ _ _ _ _ _ _ _ begun.1 same begun.0 begun.2 w.in-Ok-attend.ensures.attended w.in-Ok-attend.ensures.closed w.ending-is w.progress.ensures
        | in-Err-attend w ↦ serves_cut k g.met.C.Cost.laws t c.args.bruise c.args.energy c.args.one.now c.in_ok-plan.plan solved.plan _ _ _ _ _ _ _ _ same begun.0 w.ending-is w.in-Err-attend.ensures.cut
      ];
      cells = solves_back k g.met.C.Cost.laws t c.args.bruise c.args.energy c.args.one.now c.in_ok-plan.plan solved.plan c.end.result same;
      other = other_back k g.met.C.Cost.laws t c.args.bruise c.args.energy c.args.one.now c.in_ok-plan.plan solved.plan c.end.result _ _ same solved.other;
      when = solved.when;
    }

pub returns-in-Err : goal.returns-in-Err
returns-in-Err g c =
    let k = g.C.Cost.kind in
    let t = g.B.Board.meaning c.args.board.now in
    let solved = c.in_ok-plan.ensures in
    let refused = c.in-Err.ensures in
    record {
      promise = serves_unbegun k g.met.C.Cost.laws t c.args.bruise c.args.energy c.args.one.now c.in_ok-plan.plan solved.plan _ _ _ _ _ _ refused.1 refused.0;
      cells = solves_back k g.met.C.Cost.laws t c.args.bruise c.args.energy c.args.one.now c.in_ok-plan.plan solved.plan _ refused.1;
      other = other_back k g.met.C.Cost.laws t c.args.bruise c.args.energy c.args.one.now c.in_ok-plan.plan solved.plan _ _ _ refused.1 solved.other;
      when = solved.when;
    }
