-- The task that a list of rules stands for.
use Rattle.std.specs.Prelude.{◌≡◌, ℕ, ◌/◌, ◌%◌, ◌^◌, ◌<◌, List, length, take, Decides, slice_index_or}
use Rattle.std.specs.List.{AllByRecursion}
use Rattle.entries.specs.declared.Rule.{Rule}
use Rattle.entries.specs.declared.Rule.TheVariants.{Met}
use Rattle.task.specs.Dfa.{Dfa, DfaInRange, accepts}
use Rattle.rules.specs.declared.list.Rules.{Rules}
use Rattle.rules.specs.Digits.{digit_after, rules_dfa}
use Rattle.rules.specs.Holds.{Holds}
use Rattle.rules.specs.InRange.{rules_in_range}

-- the first five rules are read; the constructor refuses a longer list
abbrev pub means : Rules → Dfa
means t = rules_dfa (take 5 t.rules.now)

pub means_in_range : (t : Rules) → DfaInRange (means t)
means_in_range t = rules_in_range (take 5 t.rules.now)

-- the task d is that of the rules
pub record KeepsRules (rules : List Rule) (d : Dfa) : Type 0 where
  pub same : d ≡ rules_dfa rules
  -- digit i is rule i's
  pub places : (z label i : ℕ) → i < length rules → d.next z label / 3 ^ i % 3 ≡ digit_after (slice_index_or rules i (Met 0)) (z / 3 ^ i % 3) label
  -- a list of labels is accepted exactly when every rule holds of it
  pub accepts_kept : (list : List ℕ) → Decides (accepts d list) (AllByRecursion (λ r. Holds r list) rules)
