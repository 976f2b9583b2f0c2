use Rattle.std.proofs.Common.{◌≡◌, ◌+◌, ◌-◌, ◌*◌, ◌^◌, ◌<◌, length, drop}
use Rattle.rules.specs.Digits.{next_state}
use Rattle.rules.proofs.digits.next_state.Given as goal

abbrev pub invariant-loop-rule : goal.invariant-loop-rule
invariant-loop-rule l =
    (l.place ≡ 3 ^ l.rule-index)
    × (l.next < l.place)
    × (l.rest < 3 ^ (length l.rules - l.rule-index))
    × (l.next + l.place * next_state (drop l.rule-index l.rules) l.rest l.label ≡ next_state l.rules l.z l.label)
