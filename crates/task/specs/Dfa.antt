-- A task as a deterministic finite automaton that reads labels.
use Rattle.std.specs.Prelude.{ℕ, ◌<◌, Bool, cond, List, [], ◌∷◌, Some, None, Option, nat_lt}

-- states 0 to states - 1, the first one, the next one for a state and a label, and which accept
pub record Dfa : Type 0 where
  pub states : ℕ
  pub first : ℕ
  pub next : ℕ → ℕ → ℕ
  pub accepting : ℕ → Bool

-- first and next states are there
pub record DfaInRange (d : Dfa) : Type 0 where
  pub starts : d.first < d.states
  pub stays : (z label : ℕ) → z < d.states → d.next z label < d.states

-- the state after some labels, read in order from z
abbrev pub state_after : Dfa → ℕ → List ℕ → ℕ
state_after d z [] = z
state_after d z (label ∷ rest) = state_after d (d.next z label) rest

-- read from the first state, the labels end in an accepting state
abbrev pub accepts : Dfa → List ℕ → Bool
accepts d list = d.accepting (state_after d d.first list)

-- what a task answers: none of a state that is not there
abbrev pub next_at : Dfa → ℕ → ℕ → Option ℕ
next_at d z label = cond (nat_lt z d.states) (Some (d.next z label)) None

abbrev pub accepting_at : Dfa → ℕ → Option Bool
accepting_at d z = cond (nat_lt z d.states) (Some (d.accepting z)) None
