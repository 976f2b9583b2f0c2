-- What the join of a sheet's tables says of the sheet.
use Rattle.std.proofs.Common.{ℕ, ◌<◌, List, Ok, Err, Result, sym, ap, ◌∙◌, subst}
use Rattle.std.proofs.lemmas.Bool.{lt-leb}
use Rattle.automaton.specs.Arrows.{automaton_dfa}
use Rattle.flat.specs.declared.holder.FlatBoard.{FlatBoard}
use Rattle.rules.specs.Digits.{rules_dfa}
use Rattle.sheet_format.specs.Boards.{sheet_board}
use Rattle.table.proofs.Sheets.{sheets_hold}
use Rattle.table.specs.Meaning.{board_of}
use Rattle.load.specs.Boards.{task_board_size, largest_room}
use Rattle.load.specs.Joins.{FlatJoin, JoinedTables}
use Rattle.load.specs.Loads.{IsTables, IsBench, Loads}
use Rattle.load.specs.declared.parts.LoadError.{LoadError}
use Rattle.load.specs.declared.parts.LoadError.TheVariants.{Refused, Memory}
use Rattle.load.specs.declared.tables.Tables.{Tables}
use Rattle.load.proofs.Same.{same_join}
use Rattle.load.proofs.Tasks.{meant_both, size_is, size_fits, loaded, not_loaded, finishes_task}

-- the join of the tables is the sheet's
sheet_join : (bs : List ℕ) (b : Tables) (t : IsTables bs b) (r : Result FlatBoard LoadError) → JoinedTables b r
    → FlatJoin (sheet_board t.sheet) (automaton_dfa t.sheet.states t.sheet.arrows) (rules_dfa t.sheet.rules) r
sheet_join bs b t r =
    same_join _ _ _ _ _ _ r ((λ i. board_of (t.positions i) (t.moves i) (t.start i).position) ∙ (sheets_hold largest_room t.sheet t.well).1) (λ i. automaton_dfa (t.states i) (t.arrows i)) (λ i. rules_dfa (t.rules i))

pub is_bench : (bs : List ℕ) (b : Tables) (t : IsTables bs b) (f : FlatBoard) → JoinedTables b (Ok f) → IsBench bs (record { board = f; start = b.start })
is_bench bs b t f h =
    let j = sheet_join bs b t (Ok f) h in
    record {
      sheet = t.sheet;
      reads = loaded bs t.sheet t.reads (size_fits t.sheet f j.0 j.1);
      means = j.1 ∙ meant_both _ _ _ j.0;
      starts = t.start;
      task = finishes_task t.sheet _ j.0 j.1;
    }

pub no_bench : (bs : List ℕ) (b : Tables) (t : IsTables bs b) (e : LoadError) → JoinedTables b (Err e) → Loads bs (Err e)
no_bench bs b t (Refused f) h =
    let j = sheet_join bs b t (Err (Refused f)) h in
    let big : 4096 < task_board_size t.sheet = subst (λ n. 4096 < n) (size_is t.sheet) j.1 in
    not_loaded bs t.sheet (lt-leb (task_board_size t.sheet) 4096 big) t.reads ∙ ap Err (sym j.0)
no_bench bs b t Memory h = tt
