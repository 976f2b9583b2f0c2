use Rattle.std.proofs.Common.{◌&&◌, nat_lt, rules, tests}
use Rattle.std.proofs.lemmas.Iterator.{YieldsList-from_slice}
use Rattle.std.proofs.lemmas.Iterator.Search.{find_from_yields_List}
use Rattle.entries.specs.declared.Arrow.{Arrow}
use Rattle.automaton.specs.Arrows.{arrow_fits}
use Rattle.automaton.proofs.First.{next_is}
use Rattle.automaton.proofs.answers.state_after.Goals as goal

pub returns : goal.returns
returns c =
    next_is (λ r. r.now) c.args.count c.args.arrows.now c.args.z c.args.label c.map_or.result c.find.result
    (find_from_yields_List (λ (a : Arrow). arrow_fits a c.args.z c.args.label && nat_lt a.to c.args.count) _ _ c.find.result c.find.ensures.ran
    (YieldsList-from_slice c.args.arrows.now c.iter.ensures.rest) (λ x b q k. search (rules, tests)))
    (search rules)
