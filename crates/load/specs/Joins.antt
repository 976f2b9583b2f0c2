-- A board with two tasks joined, copied flat.
use Rattle.std.specs.Prelude.{◌≡◌, ◌*◌, ◌<◌, length, Ok, Err, Result}
use Rattle.automaton.specs.Arrows.{automaton_dfa}
use Rattle.board.specs.Table.{Table}
use Rattle.flat.specs.Meaning.{flat_meaning}
use Rattle.flat.specs.declared.holder.FlatBoard.{FlatBoard}
use Rattle.joined.specs.Meant.{meant}
use Rattle.refusal.specs.declared.Refusal.TheVariants.{JoinTooLarge}
use Rattle.rules.specs.Digits.{rules_dfa}
use Rattle.sheet_format.specs.Reading.{fault}
use Rattle.table.specs.Meaning.{board_of}
use Rattle.task.specs.Dfa.{Dfa}
use Rattle.twice.specs.Twice.{RoomForBoth}
use Rattle.load.specs.declared.parts.LoadError.{LoadError}
use Rattle.load.specs.declared.parts.LoadError.TheVariants.{Refused, Memory}
use Rattle.load.specs.declared.tables.Tables.{Tables}

-- the join of t with a and then with b, or 22 where it would have more than 4,096 positions, or no memory
abbrev pub FlatJoin : Table → Dfa → Dfa → Result FlatBoard LoadError → Type 0
FlatJoin t a b (Ok f) = RoomForBoth t a b × (flat_meaning f ≡ meant (meant t a) b)
FlatJoin t a b (Err (Refused e)) = (e ≡ fault JoinTooLarge 0 0) × (4096 < length t.rows * a.states * b.states)
FlatJoin t a b (Err Memory) = Unit {0}

-- the same of the board that tables hold, the automaton and the rules
abbrev pub JoinedTables : Tables → Result FlatBoard LoadError → Type 0
JoinedTables t r = FlatJoin (board_of t.positions.items t.moves.items t.start.position) (automaton_dfa t.states.items t.arrows.items) (rules_dfa t.rules.items) r
