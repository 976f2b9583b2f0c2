-- Reading a sheet.
use Rattle.std.specs.Prelude.{ℕ, cond, List, [], ◌∷◌, length, Ok, Err, codes, Result, ◌==◌, nat_le}
use Rattle.refusal.specs.declared.Refusal.TheVariants.{PastTheEnd, TooLong}
use Rattle.sheet_format.specs.declared.Fault.{Fault}
use Rattle.sheet_format.specs.Fields.{on_ok}
use Rattle.sheet_format.specs.Lines.{position_line, move_line, state_line, arrow_line, rule_line, start_line}
use Rattle.sheet_format.specs.Reading.{left, Reading, fault, done, ◌>>=◌, next_line, header, section}
use Rattle.sheet_format.specs.Sheets.{Sheet, Room}

-- arrows need states
abbrev pub most_arrows : ℕ → ℕ
most_arrows m = cond (m == 0) 0 256

-- the sections in their order
abbrev pub read_sections : Room → Reading Sheet
read_sections z = do
  positions ← section (codes "positions") 1 4096 z.positions position_line
  moves ← section (codes "moves") 0 4096 z.moves (move_line positions)
  states ← section (codes "states") 0 64 z.states state_line
  arrows ← section (codes "arrows") 0 (most_arrows (length states)) z.arrows (arrow_line (length states))
  rules ← section (codes "rules") 0 5 z.rules rule_line
  one ← next_line (header (codes "start") 1 1 1)
  start ← next_line (start_line (length positions))
  done (record { positions = positions; moves = moves; states = states; arrows = arrows; rules = rules; start = start })

-- no line, and no part of one, past the last
abbrev pub at_end : {A : Type 0} → A → ℕ → List ℕ → Result A Fault
at_end a k [] = Ok a
at_end a k (b ∷ bs) = Err (fault PastTheEnd k 0)

abbrev pub read_whole : Room → List ℕ → Result Sheet Fault
read_whole z bs = on_ok (read_sections z (left 1 bs)) (λ x. at_end x.0 x.1.line x.1.bytes)

-- what a sheet of these bytes says, or its fault
abbrev pub read_sheet : Room → List ℕ → Result Sheet Fault
read_sheet z bs = cond (nat_le (length bs) 65536) (read_whole z bs) (Err (fault TooLong 0 0))
