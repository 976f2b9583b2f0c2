use Rattle.std.proofs.Common.{Err, reverse, ap, ◌∙◌, rules}
use Rattle.sheet_format.specs.Cuts.{words}
use Rattle.lines.proofs.Marks.{unknown_name}
use Rattle.lines.proofs.rules.RuleLinesLineKindRule.entry.Goals as goal

pub returns-in_default : goal.returns-in_default
returns-in_default c =
    ap Err c.new.ensures ∙ unknown_name (reverse c.args.before.now) (words c.args.line.now.bytes.now) c.bytes.result.now (c.bytes.ensures ∙ c.word.ensures.bytes) (search rules) (search rules) (search rules) (search rules)
