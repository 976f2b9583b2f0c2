-- What an event makes of a run, on the board that is shown with it.
use Rattle.std.specs.Prelude.{ℕ, cond, List, [], ◌∷◌, length, Some, None, Option, ◌==◌, nat_lt}
use Rattle.board.specs.Table.{Table}
use Rattle.cost.specs.Kind.{Kind}
use Rattle.game.specs.Plays.{degree}
use Rattle.game.specs.Progress.{moved}
use Rattle.game.specs.declared.parts.Event.{Event}
use Rattle.game.specs.declared.parts.Event.TheVariants.{Go, There, Hand}
use Rattle.game.specs.declared.parts.Phase.{Phase}
use Rattle.game.specs.declared.parts.Phase.TheVariants.{ArmTurn, Moving, PersonTurn, Ended}
use Rattle.game.specs.declared.parts.Progress.{Progress}

-- an event is refused, by a number; or the arm begins a move, which is the answer; or a move is made
pub data Outcome : Type 0 where
  refused : ℕ → Outcome
  begins : ℕ → Outcome
  makes : ℕ → Outcome

-- the move, where it is one and it is there
abbrev pub if_there : Table → ℕ → Option ℕ → Option ℕ
if_there t p None = None
if_there t p (Some m) = cond (nat_lt m (degree t p)) (Some m) None

-- 53: the move is none or not there
abbrev pub with_move : Option ℕ → (ℕ → Outcome) → Outcome
with_move None f = refused 53
with_move (Some m) f = f m

-- 51: the run has ended; 52: the event does not fit the phase
abbrev pub in_phase : Table → (ℕ → Option ℕ) → ℕ → Phase → Event → Outcome
in_phase t plan p ArmTurn Go = with_move (if_there t p (plan p)) begins
in_phase t plan p ArmTurn There = refused 52
in_phase t plan p ArmTurn (Hand m) = refused 52
in_phase t plan p Moving Go = refused 52
in_phase t plan p Moving There = with_move (if_there t p (plan p)) makes
in_phase t plan p Moving (Hand m) = refused 52
in_phase t plan p PersonTurn Go = refused 52
in_phase t plan p PersonTurn There = refused 52
in_phase t plan p PersonTurn (Hand m) = with_move (if_there t p (Some m)) makes
in_phase t plan p Ended e = refused 51

-- the outcome of an event; `plan` has the chosen moves of the plan, `n` is its count. 50: the board shown has another count
abbrev pub outcome : {C : Type 0} → Table → ℕ → (ℕ → Option ℕ) → Progress C → Event → Outcome
outcome t n plan r e = cond (length t.rows == n) (in_phase t plan r.position r.phase e) (refused 50)

-- the run after an outcome: a refusal changes nothing
abbrev pub resulting : {C : Type 0} → Kind C → Table → Progress C → Outcome → Progress C
resulting k t r (refused x) = r
resulting k t r (begins m) = record { position = r.position; spent = r.spent; made = r.made; phase = Moving }
resulting k t r (makes m) = moved k t r m

-- the run after an event
abbrev pub after_event : {C : Type 0} → Kind C → Table → ℕ → (ℕ → Option ℕ) → Progress C → Event → Progress C
after_event k t n plan r e = resulting k t r (outcome t n plan r e)

-- the run after a list of events, each meeting what those before it left
abbrev pub after_events : {C : Type 0} → Kind C → Table → ℕ → (ℕ → Option ℕ) → Progress C → List Event → Progress C
after_events k t n plan r [] = r
after_events k t n plan r (e ∷ es) = after_events k t n plan (after_event k t n plan r e) es

-- the move of an outcome, before those of the outcomes after it
abbrev pub noted : Outcome → List ℕ → List ℕ
noted (refused x) ms = ms
noted (begins m) ms = ms
noted (makes m) ms = m ∷ ms

-- the moves that a list of events makes
abbrev pub accepted : {C : Type 0} → Kind C → Table → ℕ → (ℕ → Option ℕ) → Progress C → List Event → List ℕ
accepted k t n plan r [] = []
accepted k t n plan r (e ∷ es) = noted (outcome t n plan r e) (accepted k t n plan (after_event k t n plan r e) es)
