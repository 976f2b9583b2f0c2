use Rattle.std.proofs.Common.{◌≡◌, ◌-◌, ◌*◌, ◌%◌, ◌^◌, ◌<◌, ◌≤◌, length, get_or, sym, ap, ◌∙◌, subst, arith}
use Rattle.entries.specs.declared.Rule.TheVariants.{Met}
use Rattle.rules.specs.InRange.{digit_below}
use Rattle.rules.proofs.Turns.{power_few, power_more, digit_fits, digit_room, rest_less, next_more, next_end}
use Rattle.rules.proofs.digits.next_state.Goals as goal

small : (c : goal.After-digit_after) → c.digit_after.result < 3
small c =
    subst (λ d. d < 3) (sym c.digit_after.ensures)
    (digit_below (get_or c.args.rules.now c.loop-rule.rule-index (Met 0)) (c.loop-rule.rest % 3) c.args.label (omega arith))

placed : (c : goal.After-digit_after) → c.loop-rule.place ≤ 243
placed c = omega (arith, c.loop-rule.invariant.0, power_few c.loop-rule.rule-index (omega arith))

pub overflow_mul-next : goal.overflow_mul-next
overflow_mul-next c = omega (arith, digit_fits c.loop-rule.place c.digit_after.result (placed c) (small c))

pub overflow_add-next : goal.overflow_add-next
overflow_add-next c =
    omega (arith, placed c, c.loop-rule.invariant.1, digit_fits c.loop-rule.place c.digit_after.result (placed c) (small c))

pub overflow_mul-place : goal.overflow_mul-place
overflow_mul-place c = omega (arith, placed c)

pub loop-rule-preserved : goal.loop-rule-preserved
loop-rule-preserved c = (
  ap (λ n. n * 3) c.loop-rule.invariant.0 ∙ sym (power_more c.loop-rule.rule-index),
  digit_room c.loop-rule.next c.loop-rule.place c.digit_after.result c.loop-rule.invariant.1 (small c),
  rest_less (length c.args.rules.now) c.loop-rule.rule-index c.loop-rule.rest (omega arith) c.loop-rule.invariant.2,
  next_more c.args.rules.now (Met 0) c.loop-rule.rule-index c.loop-rule.next c.loop-rule.place c.loop-rule.rest c.args.label _
      c.digit_after.result (omega arith) c.digit_after.ensures c.loop-rule.invariant.3,
)

pub returns : goal.returns
returns c =
    let e : length c.args.rules.now - c.loop-rule.rule-index ≡ 0 = omega arith in
    next_end c.args.rules.now c.loop-rule.rule-index c.loop-rule.next c.loop-rule.place c.loop-rule.rest c.args.label _ (omega arith)
    (subst (λ n. c.loop-rule.rest < 3 ^ n) e c.loop-rule.invariant.2) c.loop-rule.invariant.3
