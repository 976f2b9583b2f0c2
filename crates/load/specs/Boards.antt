-- The board that is solved for a sheet.
use Rattle.std.specs.Prelude.{◌≡◌, ℕ, ◌*◌, ◌^◌, max, true, cond, List, length, Ok, Err, Decides, Result, nat_le}
use Rattle.std.specs.List.{AllByRecursion}
use Rattle.automaton.specs.Arrows.{automaton_dfa}
use Rattle.board.specs.Table.{Table, row_at}
use Rattle.plays.specs.Paths.{IsPath, endpoint, labels}
use Rattle.product.specs.Product.{joined}
use Rattle.refusal.specs.declared.Refusal.TheVariants.{JoinTooLarge}
use Rattle.rules.specs.Digits.{rules_dfa}
use Rattle.rules.specs.Holds.{Holds}
use Rattle.sheet_format.specs.Boards.{sheet_board}
use Rattle.sheet_format.specs.Fields.{on_ok}
use Rattle.sheet_format.specs.Read.{read_sheet}
use Rattle.sheet_format.specs.Reading.{fault}
use Rattle.sheet_format.specs.Sheets.{Sheet, Room}
use Rattle.sheet_format.specs.declared.Fault.{Fault}
use Rattle.task.specs.Dfa.{accepts}

-- the sheet's board, the automaton joined first and the rules over it
abbrev pub task_board : Sheet → Table
task_board s = joined (joined (sheet_board s) (automaton_dfa s.states s.arrows)) (rules_dfa s.rules)

-- how many positions that has: no states count as one
abbrev pub task_board_size : Sheet → ℕ
task_board_size s = length s.positions * max 1 (length s.states) * 3 ^ length s.rules

-- room for the largest sheet
abbrev pub largest_room : Room
largest_room = record { positions = 4096; moves = 4096; states = 64; arrows = 256; rules = 5 }

-- what a sheet of these bytes says, or its fault; a board of more than 4,096 positions is refused after the whole sheet
abbrev pub load_sheet : List ℕ → Result Sheet Fault
load_sheet bs = on_ok (read_sheet largest_room bs) (λ s. cond (nat_le (task_board_size s) 4096) (Ok s) (Err (fault JoinTooLarge 0 0)))

-- what has to hold for the task of a sheet to be finished by the moves ks from the start
pub record Finished (s : Sheet) (ks : List ℕ) : Type 0 where
  pub rests : (row_at (sheet_board s) (endpoint (sheet_board s) (sheet_board s).start ks)).rests ≡ true
  pub accepted : accepts (automaton_dfa s.states s.arrows) (labels (sheet_board s) (sheet_board s).start ks) ≡ true
  pub kept : AllByRecursion (λ r. Holds r (labels (sheet_board s) (sheet_board s).start ks)) s.rules

-- the moves of the board t are those of the sheet, and t rests after them exactly when the task is finished
pub record FinishesTask (s : Sheet) (t : Table) : Type 0 where
  pub paths_below : (ks : List ℕ) → IsPath t t.start ks → IsPath (sheet_board s) (sheet_board s).start ks
  pub paths_above : (ks : List ℕ) → IsPath (sheet_board s) (sheet_board s).start ks → IsPath t t.start ks
  pub finishes : (ks : List ℕ) → IsPath (sheet_board s) (sheet_board s).start ks → Decides (row_at t (endpoint t t.start ks)).rests (Finished s ks)
