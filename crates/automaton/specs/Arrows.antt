-- The automaton of a list of states and a list of arrows.
use Rattle.std.specs.Prelude.{ℕ, max, Bool, true, cond, ◌&&◌, List, [], ◌∷◌, length, ◌==◌, bit_and, slice_index_or}
use Rattle.entries.specs.declared.Arrow.{Arrow}
use Rattle.task.specs.Dfa.{Dfa}

-- the arrow leaves state z, and the label has all signs of need and none of bar
abbrev pub arrow_fits : Arrow → ℕ → ℕ → Bool
arrow_fits a z label = a.from == z && (bit_and label a.need == a.need && bit_and label a.bar == 0)

-- the state after z reads a label: that of the first arrow that fits, or z
abbrev pub next_state : List Arrow → ℕ → ℕ → ℕ
next_state [] z label = z
next_state (a ∷ rest) z label = cond (arrow_fits a z label) a.to (next_state rest z label)

-- state 0 is first; without states there is one state, and it accepts
abbrev pub automaton_dfa : List Bool → List Arrow → Dfa
automaton_dfa states arrows = record {
  states = max 1 (length states);
  first = 0;
  next = next_state arrows;
  accepting = λ z. slice_index_or states z true;
}
