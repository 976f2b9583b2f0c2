use Rattle.std.proofs.Common.{Err, ap, ◌∙◌, rules}
use Rattle.words.specs.Kinds.{mark_word}
use Rattle.lines.specs.Words.{word_at, first_of_two}
use Rattle.lines.proofs.Marks.{unmarked, other_mark, no_mark}
use Rattle.lines.proofs.fields.first_mark.Goals as goal
use Rattle.lines.proofs.fields.first_mark.Goals.{in_default-via-in-Mark-2+else-eq-2, in_default-via-in_default}

pub returns-in_default : goal.returns-in_default
returns-in_default c =
    elim c.in_default.branch [
      | in_default-via-in-Mark-2+else-eq-2 w ↦ ap Err c.new.ensures ∙ unmarked first_of_two c.args.place (word_at c.args.line.now c.args.place) (mark_word c.args.first) (mark_word c.args.second) (other_mark _ w.in-Mark.m c.args.first (search rules) (search rules)) (other_mark _ w.in-Mark.m c.args.second (search rules) (search rules))
      | in_default-via-in_default w ↦ ap Err c.new.ensures ∙ unmarked first_of_two c.args.place (word_at c.args.line.now c.args.place) (mark_word c.args.first) (mark_word c.args.second) (no_mark c.word.result.word (word_at c.args.line.now c.args.place) c.args.first (search rules) (search rules)) (no_mark c.word.result.word (word_at c.args.line.now c.args.place) c.args.second (search rules) (search rules))
    ]
