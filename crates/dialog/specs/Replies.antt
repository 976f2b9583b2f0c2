-- The lines that are answered, without their LF.
use Rattle.std.specs.Prelude.{ℕ, List, ◌++◌, Ok, Err, codes, decimal, Result}
use Rattle.game.specs.declared.parts.Event.{Event}
use Rattle.game.specs.declared.parts.Event.TheVariants.{Go, There, Hand}
use Rattle.game.specs.declared.parts.Phase.{Phase}
use Rattle.game.specs.declared.parts.Phase.TheVariants.{ArmTurn, Moving, PersonTurn, Ended}
use Rattle.game.specs.declared.parts.Progress.{Progress}
use Rattle.refusal.specs.declared.Refusal.{Refusal}
use Rattle.refusal.specs.Text.{refusal_text}
use Rattle.run.specs.declared.parts.Answer.{Answer}
use Rattle.run.specs.declared.parts.Answer.TheVariants.{Begins, Made}
use Rattle.session.specs.declared.parts.Note.{Note}
use Rattle.session.specs.declared.parts.Shown.{Shown}
use Rattle.session.specs.declared.parts.Shown.TheVariants.{Begun, Answered}
use Rattle.wording.specs.Texts.{cost_text}
use Rattle.wording.specs.declared.kinds.CostKind.{CostKind}

-- the word of an event
abbrev pub event_name : Event → List ℕ
event_name Go = codes "go"
event_name There = codes "there"
event_name (Hand k) = codes "hand"

-- the word of a state
abbrev pub phase_name : Phase → List ℕ
phase_name ArmTurn = codes "arm"
phase_name Moving = codes "moving"
phase_name PersonTurn = codes "person"
phase_name Ended = codes "ended"

-- position, cost spent, moves and state
abbrev pub progress_text : CostKind → Progress (ℕ × ℕ) → List ℕ
progress_text kind p = decimal p.position ++ (codes " " ++ (cost_text kind p.spent ++ (codes " " ++ (decimal p.made ++ (codes " " ++ phase_name p.phase)))))

-- the run has begun
abbrev pub begun_text : CostKind → Progress (ℕ × ℕ) → List ℕ
begun_text kind p = codes "begin " ++ progress_text kind p

-- the run was ended
abbrev pub end_text : CostKind → Progress (ℕ × ℕ) → List ℕ
end_text kind p = codes "end " ++ progress_text kind p

-- the move that the arm begins, a move that was made, or a refusal
abbrev pub answer_text : CostKind → Event → Progress (ℕ × ℕ) → Result Answer Refusal → List ℕ
answer_text kind e p (Ok (Begins m)) = event_name e ++ (codes " " ++ (decimal m ++ (codes " " ++ progress_text kind p)))
answer_text kind e p (Ok Made) = event_name e ++ (codes " " ++ progress_text kind p)
answer_text kind e p (Err x) = refusal_text x

-- what an event was answered
abbrev pub note_text : CostKind → Note → List ℕ
note_text kind n = answer_text kind n.event n.progress n.answer

-- what a run has shown
abbrev pub shown_text : CostKind → Shown → List ℕ
shown_text kind (Begun p) = begun_text kind p
shown_text kind (Answered n) = note_text kind n
