-- What a rule says of a list of labels.
use Rattle.std.specs.Prelude.{ℕ, ◌≤◌, List}
use Rattle.entries.specs.declared.Rule.{Rule}
use Rattle.entries.specs.declared.Rule.TheVariants.{Met, Never, Before, After}
use Rattle.task.specs.Signs.{Marked}

abbrev pub Holds : Rule → List ℕ → Type 0
-- some label has p
Holds (Met p) list = (i : ℕ) × Marked list i p
-- no label has p
Holds (Never p) list = (i : ℕ) → Marked list i p → ⊥
-- every label with q stands at or after a label with p
Holds (Before p q) list = (i : ℕ) → Marked list i q → (j : ℕ) × (j ≤ i) × Marked list j p
-- every label with p stands at or before a label with q
Holds (After p q) list = (i : ℕ) → Marked list i p → (j : ℕ) × (i ≤ j) × Marked list j q
