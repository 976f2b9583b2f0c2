-- The log of a run.
use Rattle.std.specs.Prelude.{ℕ, List, [], ◌∷◌, Option}
use Rattle.board.specs.Table.{Table}
use Rattle.cost.specs.Kind.{Kind}
use Rattle.game.specs.Events.{outcome, after_event}
use Rattle.game.specs.RunNumbers.{numbered}
use Rattle.game.specs.declared.parts.Event.{Event}
use Rattle.game.specs.declared.parts.Progress.{Progress}
use Rattle.run.specs.Answers.{answer_of}
use Rattle.session.specs.declared.parts.Note.{Note}
use Rattle.session.specs.declared.parts.Shown.{Shown}
use Rattle.session.specs.declared.parts.Shown.TheVariants.{Begun, Answered}

-- an event told to a run that has come to r: the answer, and the run afterwards with its cost in numbers
abbrev pub note_of : {C : Type 0} → Kind C → Table → ℕ → (ℕ → Option ℕ) → Progress C → Event → Note
note_of k t n plan r e = record { event = e; answer = answer_of (outcome t n plan r e); progress = numbered k (after_event k t n plan r e) }

-- a list of events, each meeting what those before it left
abbrev pub answers : {C : Type 0} → Kind C → Table → ℕ → (ℕ → Option ℕ) → Progress C → List Event → List Shown
answers k t n plan r [] = []
answers k t n plan r (e ∷ es) = Answered (note_of k t n plan r e) ∷ answers k t n plan (after_event k t n plan r e) es

-- the log of a run that begins with r
abbrev pub run_log : {C : Type 0} → Kind C → Table → ℕ → (ℕ → Option ℕ) → Progress C → List Event → List Shown
run_log k t n plan r es = Begun (numbered k r) ∷ answers k t n plan r es
