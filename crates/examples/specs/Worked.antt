-- The worked examples.
use Rattle.std.specs.Prelude.{ℕ, true, false, List, [], ◌∷◌, Ok, Err, Result}
use Rattle.cost.specs.CareKind.{care_of}
use Rattle.entries.specs.declared.Rule.TheVariants.{Before, After}
use Rattle.game.specs.declared.parts.Event.{Event}
use Rattle.game.specs.declared.parts.Event.TheVariants.{Go, There, Hand}
use Rattle.game.specs.declared.parts.Phase.{Phase}
use Rattle.game.specs.declared.parts.Phase.TheVariants.{ArmTurn, Moving, Ended}
use Rattle.game.specs.declared.parts.Progress.{Progress}
use Rattle.refusal.specs.declared.Refusal.{Refusal}
use Rattle.refusal.specs.declared.Refusal.TheVariants.{RunEnded, UnfitEvent}
use Rattle.run.specs.declared.parts.Answer.{Answer}
use Rattle.run.specs.declared.parts.Answer.TheVariants.{Begins, Made}
use Rattle.session.specs.declared.parts.Shown.{Shown}
use Rattle.session.specs.declared.parts.Shown.TheVariants.{Begun, Answered}
use Rattle.examples.specs.Claims.{Example, reports, starts, judges, adds, runs, numbers}
use Rattle.examples.specs.Sheets.{lines, four_positions, circle, may_stay, no_moves, rest_with_move, met_at_once, never_met, met_on_arrival}

-- how far a run by energy has come: position, energy, moves, phase
abbrev pub come : ℕ → ℕ → ℕ → Phase → Progress (ℕ × ℕ)
come position energy made phase = record { position = position; spent = (energy, 0); made = made; phase = phase }

-- an event, its answer, and how far the run has then come
abbrev pub told : Event → Result Answer Refusal → Progress (ℕ × ℕ) → Shown
told event answer progress = Answered (record { event = event; answer = answer; progress = progress })

-- ten examples, some in several entries
abbrev pub examples : List Example
examples =
    -- 1. by energy and by peak the arm comes to rest at once, by care through the person
    reports four_positions (lines (
    "energy 2 within 1" ∷ "0 a 1 1" ∷ "1 p 4 0" ∷ "2 a 4 0" ∷ "3 a 0 -" ∷
    "peak 2 within 1" ∷ "0 a 1 1" ∷ "1 p 4 0" ∷ "2 a 4 0" ∷ "3 a 0 -" ∷
    "care 3 over 0/7" ∷ "0 a 0/7 0" ∷ "1 p 0/4 0" ∷ "2 a 0/4 0" ∷ "3 a 0/0 -" ∷ [])) ∷
    -- 2. the arm does not go round for ever: position 0 chooses move 1
    reports circle (lines (
    "energy 2 within 5" ∷ "0 a 5 1" ∷ "1 a 5 0" ∷ "2 a 0 -" ∷
    "peak 2 within 5" ∷ "0 a 5 1" ∷ "1 a 5 0" ∷ "2 a 0 -" ∷
    "care 2 within 0/5" ∷ "0 a 0/5 1" ∷ "1 a 0/5 0" ∷ "2 a 0/0 -" ∷ [])) ∷
    -- 3. a person who may stay for ever has no cost
    reports may_stay (lines (
    "energy 0 never none" ∷ "0 p none 0" ∷ "1 a 0 -" ∷
    "peak 0 never none" ∷ "0 p none 0" ∷ "1 a 0 -" ∷
    "care 0 never none" ∷ "0 p none 0" ∷ "1 a 0/0 -" ∷ [])) ∷
    -- 4. a person without moves has no cost, a resting position has zero
    reports no_moves (lines (
    "energy 0 never none" ∷ "0 p none -" ∷ "1 a 0 -" ∷
    "peak 0 never none" ∷ "0 p none -" ∷ "1 a 0 -" ∷
    "care 0 never none" ∷ "0 p none -" ∷ "1 a 0/0 -" ∷ [])) ∷
    -- 5. a resting position has zero, whatever its moves cost
    reports rest_with_move (lines (
    "energy 0 within 0" ∷ "0 a 0 -" ∷
    "peak 0 within 0" ∷ "0 a 0 -" ∷
    "care 0 within 0/0" ∷ "0 a 0/0 -" ∷ [])) ∷
    -- 6. the label of the start is read, and that of each position on arrival
    starts met_at_once 1 ∷
    reports met_at_once (lines (
    "energy 0 within 0" ∷ "0 a none -" ∷ "1 a 0 -" ∷ "2 a none -" ∷
    "peak 0 within 0" ∷ "0 a none -" ∷ "1 a 0 -" ∷ "2 a none -" ∷
    "care 0 within 0/0" ∷ "0 a none -" ∷ "1 a 0/0 -" ∷ "2 a none -" ∷ [])) ∷
    starts never_met 0 ∷
    reports never_met (lines (
    "energy 0 never none" ∷ "0 a none -" ∷ "1 a 0 -" ∷ "2 a none -" ∷
    "peak 0 never none" ∷ "0 a none -" ∷ "1 a 0 -" ∷ "2 a none -" ∷
    "care 0 never none" ∷ "0 a none -" ∷ "1 a 0/0 -" ∷ "2 a none -" ∷ [])) ∷
    starts met_on_arrival 0 ∷
    reports met_on_arrival (lines (
    "energy 1 within 2" ∷ "0 a 2 0" ∷ "1 a 2 0" ∷ "2 a none -" ∷ "3 a none -" ∷ "4 a 0 -" ∷ "5 a none -" ∷
    "peak 1 within 2" ∷ "0 a 2 0" ∷ "1 a 2 0" ∷ "2 a none -" ∷ "3 a none -" ∷ "4 a 0 -" ∷ "5 a none -" ∷
    "care 1 within 0/2" ∷ "0 a 0/2 0" ∷ "1 a 0/2 0" ∷ "2 a none -" ∷ "3 a none -" ∷ "4 a 0/0 -" ∷ "5 a none -" ∷ [])) ∷
    -- 7. before: each label with the second sign wants the first at it or before it
    judges (Before 0 1) (3 ∷ []) true ∷
    judges (Before 0 1) (2 ∷ []) false ∷
    judges (Before 0 1) (2 ∷ 1 ∷ []) false ∷
    -- 8. after: each label with the first sign wants the second at it or after it
    judges (After 0 1) (1 ∷ 2 ∷ []) true ∷
    judges (After 0 1) (3 ∷ []) true ∷
    judges (After 0 1) (1 ∷ []) false ∷
    judges (After 0 1) (3 ∷ 1 ∷ []) false ∷
    -- 9. a bruise may come to the top; where it would pass the top, the energy is the top too
    adds (care_of 1 0) (care_of 4294967294 5) (care_of 4294967295 5) ∷
    adds (care_of 1 0) (care_of 4294967295 0) (care_of 4294967295 4294967295) ∷
    -- 10. a run: move 1 begins, a hand does not fit while moving, the move ends the run, and it has ended for good
    runs four_positions (Go ∷ Hand 0 ∷ There ∷ Go ∷ []) (
    Begun (come 0 0 0 ArmTurn) ∷
    told Go (Ok (Begins 1)) (come 0 0 0 Moving) ∷
    told (Hand 0) (Err UnfitEvent) (come 0 0 0 Moving) ∷
    told There (Ok Made) (come 3 1 1 Ended) ∷
    told Go (Err RunEnded) (come 3 1 1 Ended) ∷ []) ∷
    numbers UnfitEvent 52 ∷
    numbers RunEnded 51 ∷ []
