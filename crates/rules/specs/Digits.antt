-- The rule task: a state has one base-3 digit a rule, that of the first rule lowest, all 0 at first.
use Rattle.std.specs.Prelude.{ℕ, zero, suc, ◌+◌, ◌*◌, ◌/◌, ◌%◌, ◌^◌, Bool, true, cond, ◌&&◌, List, [], ◌∷◌, length, ◌==◌, nat_lt}
use Rattle.entries.specs.declared.Rule.{Rule}
use Rattle.entries.specs.declared.Rule.TheVariants.{Met, Never, Before, After}
use Rattle.task.specs.Dfa.{Dfa}
use Rattle.task.specs.Signs.{has_sign}

-- a rule's digit after a label; a digit without a meaning stays
abbrev pub digit_after : Rule → ℕ → ℕ → ℕ
digit_after (Met p) zero l = cond (has_sign l p) 1 0
digit_after (Met p) (suc d) l = suc d
digit_after (Never p) zero l = cond (has_sign l p) 1 0
digit_after (Never p) (suc d) l = suc d
digit_after (Before p q) zero l = cond (has_sign l p) 1 (cond (has_sign l q) 2 0)
digit_after (Before p q) (suc d) l = suc d
digit_after (After p q) zero l = cond (has_sign l q) 0 (cond (has_sign l p) 1 0)
digit_after (After p q) (suc zero) l = cond (has_sign l q) 0 1
digit_after (After p q) (suc (suc d)) l = suc (suc d)

-- the digits at which a rule accepts
abbrev pub digit_accepts : Rule → ℕ → Bool
digit_accepts (Met p) d = d == 1
digit_accepts (Never p) d = d == 0
digit_accepts (Before p q) d = nat_lt d 2
digit_accepts (After p q) d = d == 0

-- every digit turns by its own rule
abbrev pub next_state : List Rule → ℕ → ℕ → ℕ
next_state [] z l = z
next_state (r ∷ rs) z l = digit_after r (z % 3) l + 3 * next_state rs (z / 3) l

-- every digit accepts
abbrev pub state_accepts : List Rule → ℕ → Bool
state_accepts [] z = true
state_accepts (r ∷ rs) z = digit_accepts r (z % 3) && state_accepts rs (z / 3)

abbrev pub rules_dfa : List Rule → Dfa
rules_dfa rs = record { states = 3 ^ length rs; first = 0; next = next_state rs; accepting = state_accepts rs }
