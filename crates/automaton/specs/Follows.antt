-- Which arrow is followed, said of signs.
use Rattle.std.specs.Prelude.{◌≡◌, ℕ, ◌<◌, ◌≤◌, Bool, true, false, List, length, slice_index_or}
use Rattle.entries.specs.declared.Arrow.{Arrow}
use Rattle.task.specs.Dfa.{Dfa}
use Rattle.task.specs.Signs.{has_sign}
use Rattle.automaton.specs.Arrows.{automaton_dfa}

-- the arrow that stands for one that is not there
abbrev pub absent_arrow : Arrow
absent_arrow = record { from = 0; need = 0; bar = 0; to = 0 }

abbrev pub arrow_at : List Arrow → ℕ → Arrow
arrow_at arrows i = slice_index_or arrows i absent_arrow

-- the arrow leaves z, and the label has all signs of need and none of bar
pub record Fits (a : Arrow) (z label : ℕ) : Type 0 where
  pub leaves : a.from ≡ z
  pub needed : (sign : ℕ) → has_sign a.need sign ≡ true → has_sign label sign ≡ true
  pub barred : (sign : ℕ) → has_sign a.bar sign ≡ true → has_sign label sign ≡ false

-- the state next follows z at a label
pub record Follows (arrows : List Arrow) (z label next : ℕ) : Type 0 where
  -- where arrow i fits and none before it does
  pub by_arrow : (i : ℕ) → i < length arrows → Fits (arrow_at arrows i) z label → ((j : ℕ) → j < i → Fits (arrow_at arrows j) z label → ⊥)
      → next ≡ (arrow_at arrows i).to
  -- where none fits
  pub stays : ((i : ℕ) → i < length arrows → Fits (arrow_at arrows i) z label → ⊥) → next ≡ z

-- at most 64 states, and every arrow goes from one of them to one of them
pub record Whole (states : List Bool) (arrows : List Arrow) : Type 0 where
  pub few : length states ≤ 64
  pub inside : (i : ℕ) → i < length arrows → ((arrow_at arrows i).from < length states) × ((arrow_at arrows i).to < length states)

-- the task d is the automaton of the states and the arrows
pub record IsAutomaton (states : List Bool) (arrows : List Arrow) (d : Dfa) : Type 0 where
  pub whole : Whole states arrows
  pub same : d ≡ automaton_dfa states arrows
  pub follows : (z label : ℕ) → Follows arrows z label (d.next z label)
