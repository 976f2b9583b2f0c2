use Rattle.std.proofs.Common.{◌∙◌, ap}
use Rattle.automaton.specs.Arrows.{automaton_dfa}
use Rattle.rules.specs.Digits.{rules_dfa}
use Rattle.load.proofs.Same.{same_join}
use Rattle.load.proofs.tables.Tables.joined.Goals as goal

pub returns : goal.returns
returns c =
    same_join _ _ _ _ _ _ c.flat_join.result c.board.ensures
    (c.in_ok-automaton.ensures.same ∙ (λ i. automaton_dfa (c.as_slice.ensures.value i) (c.as_slice-2.ensures.value i)))
    (c.in_ok-rules.ensures.1.same ∙ ap rules_dfa c.as_slice-3.ensures.value) c.flat_join.ensures
