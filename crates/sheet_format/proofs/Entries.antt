-- Position, state, arrow and start lines.
use Rattle.std.proofs.Common.{◌≡◌, ℕ, zero, suc, ◌<◌, ◌≤◌, Bool, true, false, eqb, List, [], ◌∷◌, Ok, codes, refl, ap, ap₂, arith}
use Rattle.std.specs.Str.{bytes_eq}
use Rattle.board.specs.declared.parts.Turn.{Turn}
use Rattle.board.specs.declared.parts.Turn.TheVariants.{Arm, Person}
use Rattle.entries.specs.declared.Arrow.{Arrow}
use Rattle.entries.specs.declared.Position.{Position}
use Rattle.entries.specs.declared.Start.{Start}
use Rattle.sheet_format.proofs.Cuts.{Clean}
use Rattle.sheet_format.proofs.Fields.{Proper, row_again}
use Rattle.sheet_format.proofs.LineKinds.{Lawful, lawful_as, RowKind, no_checks, kind_lawful}
use Rattle.sheet_format.specs.Fields.{RowFits, row_words}
use Rattle.sheet_format.specs.Lines.{top, mark, position_fields, turn_of, position_of, position_line, state_fields, state_of, state_line, arrow_fields, arrow_of, arrow_line, start_fields, start_of, start_line}
use Rattle.sheet_format.specs.Spelling.{position_words, state_words, arrow_words, start_words}
use Rattle.sheet_format.specs.WellFormed.{ArrowFits}

-- two marks, by their numbers
mark_proper : (v w : List ℕ) → bytes_eq w v ≡ false → Clean v → Clean w → Proper (mark v w)
mark_proper v w e c d = (((e, tt), (tt, tt)), (c, (d, tt)))

abbrev turn_number : Turn → ℕ
turn_number Arm = 0
turn_number Person = 1

abbrev mark_number : Bool → ℕ
mark_number true = 0
mark_number false = 1

turn_number_of : (x : ℕ) → x < 2 → turn_number (turn_of x) ≡ x
turn_number_of zero h = refl
turn_number_of (suc zero) h = refl
turn_number_of (suc (suc x)) h = absurd (omega arith)

mark_number_of : (x : ℕ) → x < 2 → mark_number (eqb x 0) ≡ x
mark_number_of zero h = refl
mark_number_of (suc zero) h = refl
mark_number_of (suc (suc x)) h = absurd (omega arith)

-- positions
abbrev position_row : Position → List ℕ
position_row p = turn_number p.turn ∷ mark_number p.rests ∷ p.label ∷ []

position_back : (t : Turn) (b : Bool) (l : ℕ) → position_of (turn_number t ∷ mark_number b ∷ l ∷ []) ≡ record { turn = t; rests = b; label = l }
position_back Arm true l = refl
position_back Arm false l = refl
position_back Person true l = refl
position_back Person false l = refl

position_row_back : (r : List ℕ) → RowFits position_fields r → position_row (position_of r) ≡ r
position_row_back [] h = absurd h
position_row_back (x ∷ []) h = absurd h.1
position_row_back (x ∷ y ∷ []) h = absurd h.1.1
position_row_back (x ∷ y ∷ l ∷ []) h = ap₂ (λ t b. t ∷ b ∷ l ∷ []) (turn_number_of x h.0) (mark_number_of y h.1.0)
position_row_back (x ∷ y ∷ l ∷ z ∷ r) h = absurd h.1.1.1

position_spelt : (t : Turn) (b : Bool) (l : ℕ) → row_words position_fields (turn_number t ∷ mark_number b ∷ l ∷ []) ≡ position_words (record { turn = t; rests = b; label = l })
position_spelt Arm true l = refl
position_spelt Arm false l = refl
position_spelt Person true l = refl
position_spelt Person false l = refl

position_kind : RowKind position_fields position_of position_row position_words
position_kind = record {
  proper = (mark_proper (codes "a") (codes "p") refl (omega arith) (omega arith), (mark_proper (codes "r") (codes "-") refl (omega arith) (omega arith), (omega arith, tt)));
  some = omega arith;
  value_back = λ p. position_back p.turn p.rests p.label;
  row_back = position_row_back;
  spelt = λ p. position_spelt p.turn p.rests p.label;
}

turn_below : (t : Turn) → turn_number t < 2
turn_below Arm = omega arith
turn_below Person = omega arith

mark_below : (b : Bool) → mark_number b < 2
mark_below true = omega arith
mark_below false = omega arith

pub position_lawful : (seen : List Position) → Lawful (position_line seen) position_words (λ p. p.label ≤ 65535)
position_lawful seen = lawful_as (kind_lawful 1 position_fields position_of position_row position_words position_kind (λ p. Ok p) (λ p. Unit {0}) no_checks) (λ p. p.label ≤ 65535) (λ p h. ((turn_below p.turn, (mark_below p.rests, ((omega arith, h), tt))), tt)) (λ p h. h.0.1.1.0.1)

-- states
state_row_back : (r : List ℕ) → RowFits state_fields r → mark_number (state_of r) ∷ [] ≡ r
state_row_back [] h = absurd h
state_row_back (x ∷ []) h = ap (λ k. k ∷ []) (mark_number_of x h.0)
state_row_back (x ∷ y ∷ r) h = absurd h.1

state_back : (b : Bool) → state_of (mark_number b ∷ []) ≡ b
state_back true = refl
state_back false = refl

state_spelt : (b : Bool) → row_words state_fields (mark_number b ∷ []) ≡ state_words b
state_spelt true = refl
state_spelt false = refl

state_kind : RowKind state_fields state_of (λ b. mark_number b ∷ []) state_words
state_kind = record { proper = (mark_proper (codes "y") (codes "n") refl (omega arith) (omega arith), tt); some = omega arith; value_back = state_back; row_back = state_row_back; spelt = state_spelt }

pub state_lawful : (seen : List Bool) → Lawful (state_line seen) state_words (λ b. Unit {0})
state_lawful seen = lawful_as (kind_lawful 1 state_fields state_of (λ b. mark_number b ∷ []) state_words state_kind (λ b. Ok b) (λ b. Unit {0}) no_checks) (λ b. Unit {0}) (λ b h. ((mark_below b, tt), tt)) (λ b h. tt)

-- arrows
abbrev arrow_row : Arrow → List ℕ
arrow_row a = a.from ∷ a.need ∷ a.bar ∷ a.to ∷ []

arrow_kind : (m : ℕ) → m ≤ 10000000000 → RowKind (arrow_fields m) arrow_of arrow_row arrow_words
arrow_kind m h = record { proper = (h, (omega arith, (omega arith, (h, tt)))); some = omega arith; value_back = λ a. refl; row_back = row_again (arrow_fields m); spelt = λ a. refl }

pub arrow_lawful : (m : ℕ) → m ≤ 10000000000 → (seen : List Arrow) → Lawful (arrow_line m seen) arrow_words (ArrowFits m)
arrow_lawful m h seen = lawful_as (kind_lawful 1 (arrow_fields m) arrow_of arrow_row arrow_words (arrow_kind m h) (λ a. Ok a) (λ a. Unit {0}) no_checks) (ArrowFits m) (λ a k. ((k.from, ((omega arith, k.need), ((omega arith, k.bar), (k.to, tt)))), tt)) (λ a k. record { from = k.0.0; need = k.0.1.0.1; bar = k.0.1.1.0.1; to = k.0.1.1.1.0 })

-- the start
pub record StartFits (n : ℕ) (s : Start) : Type 0 where
  pub position : s.position < n
  pub bruise : s.bruise ≤ top
  pub energy : s.energy ≤ top

abbrev start_row : Start → List ℕ
start_row s = s.position ∷ s.bruise ∷ s.energy ∷ []

start_kind : (n : ℕ) → n ≤ 10000000000 → RowKind (start_fields n) start_of start_row start_words
start_kind n h = record { proper = (h, (omega arith, (omega arith, tt))); some = omega arith; value_back = λ s. refl; row_back = row_again (start_fields n); spelt = λ s. refl }

pub start_lawful : (n : ℕ) → n ≤ 10000000000 → Lawful (start_line n) start_words (StartFits n)
start_lawful n h = lawful_as (kind_lawful 1 (start_fields n) start_of start_row start_words (start_kind n h) (λ s. Ok s) (λ s. Unit {0}) no_checks) (StartFits n) (λ s k. ((k.position, ((omega arith, k.bruise), ((omega arith, k.energy), tt))), tt)) (λ s k. record { position = k.0.0; bruise = k.0.1.0.1; energy = k.0.1.1.0.1 })
