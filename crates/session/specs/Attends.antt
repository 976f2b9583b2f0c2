-- A run that was told some events.
use Rattle.std.specs.Prelude.{◌≡◌, ℕ, ◌⊎◌, List, ◌++◌, length, Option}
use Rattle.board.specs.Table.{Table}
use Rattle.cost.specs.Kind.{Kind}
use Rattle.game.specs.Events.{after_events}
use Rattle.game.specs.declared.parts.Event.{Event}
use Rattle.game.specs.declared.parts.Progress.{Progress}
use Rattle.session.specs.Notes.{answers}
use Rattle.session.specs.declared.parts.Shown.{Shown}

-- from r to r' by the events that were told in between, and the log with their answers
pub record Attended {C : Type 0} (k : Kind C) (t : Table) (n : ℕ) (plan : ℕ → Option ℕ) (r r' : Progress C) (told told' : List Event) (log log' : List Shown) : Type 0 where
  pub events : List Event
  pub told_more : told' ≡ told ++ events
  pub comes : r' ≡ after_events k t n plan r events
  pub log_more : log' ≡ log ++ answers k t n plan r events

-- the desk could not log what it was shown, or told 2^64 - 1 events
abbrev pub CutShort : List Event → List Event → Type 0 → Type 0
CutShort told told' broken = broken ⊎ ((es : List Event) × (told' ≡ told ++ es) × (length es ≡ 18446744073709551615))
