use Rattle.std.proofs.Common.{List, sym, refl, subst, arith}
use Rattle.std.proofs.lemmas.List.{take_all}
use Rattle.entries.specs.declared.Rule.{Rule}
use Rattle.rules.specs.Digits.{rules_dfa}
use Rattle.rules.specs.Means.{KeepsRules}
use Rattle.rules.proofs.Each.{rules_are}
use Rattle.rules.proofs.Placed.{placed}
use Rattle.rules.proofs.list.Rules.over.Goals as goal

kept : (rs : List Rule) → KeepsRules rs (rules_dfa rs)
kept rs = record { same = refl; places = placed rs; accepts_kept = rules_are rs }

pub returns-then-rules-le-MOST_RULES : goal.returns-then-rules-le-MOST_RULES
returns-then-rules-le-MOST_RULES c =
    (omega arith, subst (λ xs. KeepsRules c.args.rules.now (rules_dfa xs)) (sym (take_all 5 c.args.rules.now (omega arith))) (kept c.args.rules.now))
