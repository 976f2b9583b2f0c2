-- What a board answers: none where there is no such position or move.
use Rattle.std.specs.Prelude.{ℕ, Bool, length, Some, None, Option}
use Rattle.std.specs.Option.{option_map}
use Rattle.std.specs.List.{slice_get}
use Rattle.board.specs.declared.parts.Step.{Step}
use Rattle.board.specs.declared.parts.Turn.{Turn}
use Rattle.board.specs.Table.{Table}

-- the answer to a question about a value, where there is one
abbrev pub bound : {X Y : Type 0} → Option X → (X → Option Y) → Option Y
bound None f = None
bound (Some x) f = f x

abbrev pub turn_at : Table → ℕ → Option Turn
turn_at t p = option_map (λ r. r.turn) (slice_get t.rows p)

abbrev pub label_at : Table → ℕ → Option ℕ
label_at t p = option_map (λ r. r.label) (slice_get t.rows p)

abbrev pub rests_at : Table → ℕ → Option Bool
rests_at t p = option_map (λ r. r.rests) (slice_get t.rows p)

abbrev pub degree_at : Table → ℕ → Option ℕ
degree_at t p = option_map (λ r. length r.moves) (slice_get t.rows p)

abbrev pub step_at : Table → ℕ → ℕ → Option Step
step_at t p k = bound (slice_get t.rows p) (λ r. slice_get r.moves k)
