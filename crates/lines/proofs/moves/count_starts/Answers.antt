use Rattle.std.proofs.Common.{eqb, ap, ◌∙◌}
use Rattle.std.specs.List.{count_by}
use Rattle.std.proofs.lemmas.List.{take_all}
use Rattle.lines.proofs.Before.{count_from_reverse}
use Rattle.lines.proofs.moves.count_starts.Goals as goal

pub returns : goal.returns
returns c =
    c.loop-m.invariant.1 ∙ ap (count_by (λ m. eqb m.from c.args.from)) (take_all c.loop-m.m-index c.args.moves.now c.loop-m-test.false) ∙ count_from_reverse c.args.from c.args.moves.now
