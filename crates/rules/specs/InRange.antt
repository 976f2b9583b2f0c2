-- The states of a rule task stay in range.
use Rattle.std.specs.Prelude.{◌≡◌, ℕ, zero, suc, ◌*◌, ◌/◌, ◌%◌, ◌^◌, ◌<◌, Bool, true, false, cond, List, [], ◌∷◌, length}
use Rattle.std.proofs.Common.{pow-suc, arith}
use Rattle.entries.specs.declared.Rule.{Rule}
use Rattle.entries.specs.declared.Rule.TheVariants.{Met, Never, Before, After}
use Rattle.task.specs.Dfa.{DfaInRange}
use Rattle.task.specs.Signs.{has_sign}
use Rattle.rules.specs.Digits.{digit_after, next_state, rules_dfa}

either_below : (b : Bool) (x y : ℕ) → x < 3 → y < 3 → cond b x y < 3
either_below true x y hx hy = hx
either_below false x y hx hy = hy

pub digit_below : (r : Rule) (d l : ℕ) → d < 3 → digit_after r d l < 3
digit_below (Met p) zero l h = either_below (has_sign l p) 1 0 (omega arith) (omega arith)
digit_below (Met p) (suc d) l h = h
digit_below (Never p) zero l h = either_below (has_sign l p) 1 0 (omega arith) (omega arith)
digit_below (Never p) (suc d) l h = h
digit_below (Before p q) zero l h =
    either_below (has_sign l p) 1 (cond (has_sign l q) 2 0) (omega arith) (either_below (has_sign l q) 2 0 (omega arith) (omega arith))
digit_below (Before p q) (suc d) l h = h
digit_below (After p q) zero l h =
    either_below (has_sign l q) 0 (cond (has_sign l p) 1 0) (omega arith) (either_below (has_sign l p) 1 0 (omega arith) (omega arith))
digit_below (After p q) (suc zero) l h = either_below (has_sign l q) 0 1 (omega arith) (omega arith)
digit_below (After p q) (suc (suc d)) l h = h

pub next_below : (rs : List Rule) (z l : ℕ) → z < 3 ^ length rs → next_state rs z l < 3 ^ length rs
next_below [] z l h = h
next_below (r ∷ rs) z l h =
    let e : 3 ^ suc (length rs) ≡ 3 ^ length rs * 3 = pow-suc 3 (length rs) in
    let low : digit_after r (z % 3) l < 3 = digit_below r (z % 3) l (omega arith) in
    let high : next_state rs (z / 3) l < 3 ^ length rs = next_below rs (z / 3) l (omega arith) in
    omega arith

some_states : (n : ℕ) → 0 < 3 ^ n
some_states zero = omega arith
some_states (suc n) = omega (arith, pow-suc 3 n, some_states n)

pub rules_in_range : (rs : List Rule) → DfaInRange (rules_dfa rs)
rules_in_range rs = record { starts = some_states (length rs); stays = next_below rs }
