-- The rule task taken apart: one digit a rule.
use Rattle.std.proofs.Common.{◌≡◌, ℕ, ◌+◌, ◌*◌, ◌/◌, ◌%◌, ◌<◌, ◌&&◌, List, [], ◌∷◌, ap, ◌∙◌, ap₂, arith}
use Rattle.entries.specs.declared.Rule.{Rule}
use Rattle.task.specs.Dfa.{state_after, accepts}
use Rattle.rules.specs.Digits.{digit_after, digit_accepts, next_state, state_accepts, rules_dfa}
use Rattle.rules.specs.InRange.{digit_below}

-- a rule's digit after some labels
abbrev pub digit_read : Rule → ℕ → List ℕ → ℕ
digit_read r d [] = d
digit_read r d (l ∷ ls) = digit_read r (digit_after r d l) ls

pub digit_read_below : (r : Rule) (ls : List ℕ) (d : ℕ) → d < 3 → digit_read r d ls < 3
digit_read_below r [] d h = h
digit_read_below r (l ∷ ls) d h = digit_read_below r ls (digit_after r d l) (digit_below r d l h)

low : (d w : ℕ) → d < 3 → (d + 3 * w) % 3 ≡ d
low d w h = omega arith

high : (d w : ℕ) → d < 3 → (d + 3 * w) / 3 ≡ w
high d w h = omega arith

pub read_split : (r : Rule) (rs : List Rule) (ls : List ℕ) (z : ℕ)
    → state_after (rules_dfa (r ∷ rs)) z ls ≡ digit_read r (z % 3) ls + 3 * state_after (rules_dfa rs) (z / 3) ls
read_split r rs [] z = omega arith
read_split r rs (l ∷ ls) z =
    read_split r rs ls (digit_after r (z % 3) l + 3 * next_state rs (z / 3) l)
    ∙ ap₂ (λ a b. digit_read r a ls + 3 * state_after (rules_dfa rs) b ls)
    (low (digit_after r (z % 3) l) (next_state rs (z / 3) l) (digit_below r (z % 3) l (omega arith)))
    (high (digit_after r (z % 3) l) (next_state rs (z / 3) l) (digit_below r (z % 3) l (omega arith)))

pub accepts_split : (r : Rule) (rs : List Rule) (ls : List ℕ)
    → accepts (rules_dfa (r ∷ rs)) ls ≡ (digit_accepts r (digit_read r 0 ls) && accepts (rules_dfa rs) ls)
accepts_split r rs ls =
    ap (λ s. digit_accepts r (s % 3) && state_accepts rs (s / 3)) (read_split r rs ls 0)
    ∙ ap₂ (λ a b. digit_accepts r a && state_accepts rs b)
    (low (digit_read r 0 ls) (state_after (rules_dfa rs) 0 ls) (digit_read_below r ls 0 (omega arith)))
    (high (digit_read r 0 ls) (state_after (rules_dfa rs) 0 ls) (digit_read_below r ls 0 (omega arith)))
