-- The task that an automaton value stands for. A value that the constructor would refuse has a meaning too.
use Rattle.std.specs.Prelude.{ℕ, ◌<◌, min, max, Bool, true, cond, ◌&&◌, List, [], ◌∷◌, length, nat_lt, slice_index_or}
use Rattle.std.proofs.Common.{arith}
use Rattle.std.proofs.lemmas.Bool.{cond_both, and_parts, ltb-true}
use Rattle.entries.specs.declared.Arrow.{Arrow}
use Rattle.task.specs.Dfa.{Dfa, DfaInRange}
use Rattle.automaton.specs.declared.holder.Automaton.{Automaton}
use Rattle.automaton.specs.Arrows.{arrow_fits}

-- 64 states at most, and at least one
abbrev pub size_of : List Bool → ℕ
size_of states = max 1 (min 64 (length states))

-- an arrow to none of n states is passed over
abbrev pub next_within : ℕ → List Arrow → ℕ → ℕ → ℕ
next_within n [] z label = z
next_within n (a ∷ rest) z label = cond (arrow_fits a z label && nat_lt a.to n) a.to (next_within n rest z label)

abbrev pub bounded_dfa : List Bool → List Arrow → Dfa
bounded_dfa states arrows = record {
  states = size_of states;
  first = 0;
  next = next_within (size_of states) arrows;
  accepting = λ z. slice_index_or states z true;
}

abbrev pub means : Automaton → Dfa
means t = bounded_dfa t.states.now t.arrows.now

within_below : (n : ℕ) (arrows : List Arrow) (z label : ℕ) → z < n → next_within n arrows z label < n
within_below n [] z label h = h
within_below n (a ∷ rest) z label h =
    cond_both (arrow_fits a z label && nat_lt a.to n) a.to (next_within n rest z label) (λ x. x < n)
    (λ e. ltb-true a.to n (and_parts (arrow_fits a z label) (nat_lt a.to n) e).1)
    (λ _. within_below n rest z label h)

pub means_in_range : (t : Automaton) → DfaInRange (means t)
means_in_range t = record {
  starts = omega arith;
  stays = λ z label h. within_below (size_of t.states.now) t.arrows.now z label h;
}
