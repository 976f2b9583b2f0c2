-- Theorem: a run that keeps its cost as two numbers goes as one that keeps the cost.
use Rattle.std.specs.Prelude.{◌≡◌, ℕ, List, Option}
use Rattle.board.specs.Table.{Table}
use Rattle.cost.specs.Kind.{Kind}
use Rattle.cost.specs.Numbers.{on_numbers}
use Rattle.game.specs.Events.{after_events, accepted}
use Rattle.game.specs.declared.parts.Event.{Event}
use Rattle.game.specs.declared.parts.Progress.{Progress}

-- the same run, what it has spent kept as two numbers
abbrev pub numbered : {C : Type 0} → Kind C → Progress C → Progress (ℕ × ℕ)
numbered k r = record { position = r.position; spent = k.numbers r.spent; made = r.made; phase = r.phase }

pub record SameInNumbers {C : Type 0} (k : Kind C) (t : Table) (n : ℕ) (plan : ℕ → Option ℕ) (r : Progress C) (es : List Event) : Type 0 where
  pub runs : after_events (on_numbers k) t n plan (numbered k r) es ≡ numbered k (after_events k t n plan r es)
  pub moves : accepted (on_numbers k) t n plan (numbered k r) es ≡ accepted k t n plan r es

abbrev pub NumbersKeepRuns : {C : Type 0} → Kind C → Type 0
NumbersKeepRuns {C} k = (t : Table) (n : ℕ) (plan : ℕ → Option ℕ) (r : Progress C) (es : List Event) → SameInNumbers k t n plan r es
