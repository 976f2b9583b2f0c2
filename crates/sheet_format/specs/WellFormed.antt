-- The sheets that can be written: every number in its range, and room for each section.
use Rattle.std.specs.Prelude.{◌≡◌, ℕ, ◌<◌, ◌≤◌, List, [], ◌∷◌, length, slice_index_or}
use Rattle.std.specs.List.{AllByRecursion}
use Rattle.board.specs.declared.parts.Turn.TheVariants.{Person}
use Rattle.entries.specs.declared.Arrow.{Arrow}
use Rattle.entries.specs.declared.Move.{Move}
use Rattle.entries.specs.declared.Position.{Position}
use Rattle.entries.specs.declared.Rule.{Rule}
use Rattle.entries.specs.declared.Rule.TheVariants.{Met, Never, Before, After}
use Rattle.sheet_format.specs.Lines.{top, absent_position, count_from}
use Rattle.sheet_format.specs.Sheets.{Sheet, Room}
use Rattle.sheet_format.specs.Spelling.{spelled}

-- a move between positions that are there; a person's move is free
pub record MoveFits (ps : List Position) (m : Move) : Type 0 where
  pub from : m.from < length ps
  pub to : m.to < length ps
  pub bruise : m.bruise ≤ 1000
  pub energy : m.energy ≤ 1000000
  pub free : (slice_index_or ps m.from absent_position).turn ≡ Person → (m.bruise ≡ 0) × (m.energy ≡ 0)

-- no move starts below f, nor below the one before it
abbrev pub NeverFalling : ℕ → List Move → Type 0
NeverFalling f [] = Unit {0}
NeverFalling f (m ∷ ms) = (f ≤ m.from) × NeverFalling m.from ms

-- an arrow between states that are there
pub record ArrowFits (states : ℕ) (a : Arrow) : Type 0 where
  pub from : a.from < states
  pub need : a.need ≤ 65535
  pub bar : a.bar ≤ 65535
  pub to : a.to < states

-- signs are 0 to 15
abbrev pub RuleFits : Rule → Type 0
RuleFits (Met p) = p ≤ 15
RuleFits (Never p) = p ≤ 15
RuleFits (Before p q) = (p ≤ 15) × (q ≤ 15)
RuleFits (After p q) = (p ≤ 15) × (q ≤ 15)

-- a count within its limits, with room in its table
pub record CountFits (low high room n : ℕ) : Type 0 where
  pub least : low ≤ n
  pub most : n ≤ high
  pub fits : n ≤ room

pub record WellFormed (z : Room) (s : Sheet) : Type 0 where
  pub positions : CountFits 1 4096 z.positions (length s.positions)
  pub labels : AllByRecursion (λ p. p.label ≤ 65535) s.positions
  pub moves : CountFits 0 4096 z.moves (length s.moves)
  pub each_move : AllByRecursion (MoveFits s.positions) s.moves
  pub sorted : NeverFalling 0 s.moves
  pub few : (p : ℕ) → count_from p s.moves ≤ 64
  pub states : CountFits 0 64 z.states (length s.states)
  pub arrows : CountFits 0 256 z.arrows (length s.arrows)
  pub each_arrow : AllByRecursion (ArrowFits (length s.states)) s.arrows
  pub rules : CountFits 0 5 z.rules (length s.rules)
  pub each_rule : AllByRecursion RuleFits s.rules
  pub start : s.start.position < length s.positions
  pub bruise : s.start.bruise ≤ top
  pub energy : s.start.energy ≤ top
  pub size : length (spelled s) ≤ 65536
