-- The kinds of lines.
use Rattle.std.specs.Prelude.{ℕ, Bool, true, false, cond, ◌&&◌, List, [], ◌∷◌, length, Some, None, Ok, Err, codes, filter, Option, Result, ◌==◌, nat_eq, nat_le, nat_lt, slice_index, slice_index_or}
use Rattle.board.specs.declared.parts.Turn.{Turn}
use Rattle.board.specs.declared.parts.Turn.TheVariants.{Arm, Person}
use Rattle.entries.specs.declared.Arrow.{Arrow}
use Rattle.entries.specs.declared.Move.{Move}
use Rattle.entries.specs.declared.Position.{Position}
use Rattle.entries.specs.declared.Rule.{Rule}
use Rattle.entries.specs.declared.Rule.TheVariants.{Met, Never, Before, After}
use Rattle.entries.specs.declared.Start.{Start}
use Rattle.refusal.specs.declared.Refusal.TheVariants.{UnknownMark, FromFalls, TooManyMoves, PersonPays}
use Rattle.sheet_format.specs.declared.LineFault.{LineFault}
use Rattle.sheet_format.specs.Fields.{Field, one_of, between, below, line_fault, on_ok, place_among, read_fields}
use Rattle.sheet_format.specs.Reading.{LineReading}

abbrev pub top : ℕ
top = 4294967295

-- one of two marks; a label; a sign
abbrev pub mark : List ℕ → List ℕ → Field
mark v w = one_of UnknownMark (v ∷ w ∷ [])

abbrev pub label : Field
label = between 0 65535

abbrev pub sign : Field
sign = between 0 15

-- positions: `a` or `p`; `r` or `-`; label
abbrev pub position_fields : List Field
position_fields = mark (codes "a") (codes "p") ∷ mark (codes "r") (codes "-") ∷ label ∷ []

abbrev pub turn_of : ℕ → Turn
turn_of k = cond (k == 0) Arm Person

abbrev pub position_of : List ℕ → Position
position_of r = record { turn = turn_of (slice_index r 0); rests = (slice_index r 1 == 0); label = slice_index r 2 }

abbrev pub position_line : List Position → LineReading Position
position_line seen ws = on_ok (read_fields 1 position_fields ws) (λ r. Ok (position_of r))

-- moves: from, to, bruise, energy
abbrev pub move_fields : ℕ → List Field
move_fields n = below n ∷ below n ∷ between 0 1000 ∷ between 0 1000000 ∷ []

abbrev pub move_of : List ℕ → Move
move_of r = record { from = slice_index r 0; to = slice_index r 1; bruise = slice_index r 2; energy = slice_index r 3 }

-- where the move before starts
abbrev pub last_from : List Move → ℕ
last_from [] = 0
last_from (m ∷ ms) = m.from

-- how many of the moves start at p
abbrev pub count_from : ℕ → List Move → ℕ
count_from p ms = length (filter (λ m. nat_eq m.from p) ms)

-- the position that stands for one that is not there
abbrev pub absent_position : Position
absent_position = record { turn = Arm; rests = false; label = 0 }

abbrev pub is_person : Turn → Bool
is_person Arm = false
is_person Person = true

-- the move is a person's and not free
abbrev pub person_pays : List Position → Move → Bool
person_pays ps m = is_person (slice_index_or ps m.from absent_position).turn && cond (m.bruise == 0) (nat_lt 0 m.energy) true

-- from falls; 64 moves start there already; a person's move costs
abbrev pub move_checks : List Position → List Move → Move → Result Move LineFault
move_checks ps seen m = cond (nat_lt m.from (last_from seen)) (Err (line_fault FromFalls 0)) (cond (nat_le 64 (count_from m.from seen)) (Err (line_fault TooManyMoves 0)) (cond (person_pays ps m) (Err (line_fault PersonPays 0)) (Ok m)))

abbrev pub move_line : List Position → List Move → LineReading Move
move_line ps seen ws = on_ok (read_fields 1 (move_fields (length ps)) ws) (λ r. move_checks ps seen (move_of r))

-- states: `y` or `n`
abbrev pub state_fields : List Field
state_fields = mark (codes "y") (codes "n") ∷ []

abbrev pub state_of : List ℕ → Bool
state_of r = slice_index r 0 == 0

abbrev pub state_line : List Bool → LineReading Bool
state_line seen ws = on_ok (read_fields 1 state_fields ws) (λ r. Ok (state_of r))

-- arrows: from, need, bar, to
abbrev pub arrow_fields : ℕ → List Field
arrow_fields m = below m ∷ label ∷ label ∷ below m ∷ []

abbrev pub arrow_of : List ℕ → Arrow
arrow_of r = record { from = slice_index r 0; need = slice_index r 1; bar = slice_index r 2; to = slice_index r 3 }

abbrev pub arrow_line : ℕ → List Arrow → LineReading Arrow
arrow_line m seen ws = on_ok (read_fields 1 (arrow_fields m) ws) (λ r. Ok (arrow_of r))

-- rules: the name first, then the signs that it asks for
abbrev pub rule_names : List (List ℕ)
rule_names = codes "met" ∷ codes "never" ∷ codes "before" ∷ codes "after" ∷ []

abbrev pub rule_fields : ℕ → List Field
rule_fields k = cond (nat_lt k 2) (sign ∷ []) (sign ∷ sign ∷ [])

abbrev pub rule_of : ℕ → List ℕ → Rule
rule_of k r = cond (k == 0) (Met (slice_index r 0)) (cond (k == 1) (Never (slice_index r 0)) (cond (k == 2) (Before (slice_index r 0) (slice_index r 1)) (After (slice_index r 0) (slice_index r 1))))

abbrev pub rule_named : Option ℕ → List (List ℕ) → Result Rule LineFault
rule_named None ws = Err (line_fault UnknownMark 1)
rule_named (Some k) ws = on_ok (read_fields 2 (rule_fields k) ws) (λ r. Ok (rule_of k r))

abbrev pub rule_line : List Rule → LineReading Rule
rule_line seen [] = Err (line_fault UnknownMark 1)
rule_line seen (w ∷ ws) = rule_named (place_among w rule_names) ws

-- start: position, budget bruise, budget energy
abbrev pub start_fields : ℕ → List Field
start_fields n = below n ∷ between 0 top ∷ between 0 top ∷ []

abbrev pub start_of : List ℕ → Start
start_of r = record { position = slice_index r 0; bruise = slice_index r 1; energy = slice_index r 2 }

abbrev pub start_line : ℕ → LineReading Start
start_line n ws = on_ok (read_fields 1 (start_fields n) ws) (λ r. Ok (start_of r))
