-- The tables of a well-formed sheet hold the board that it spells.
use Rattle.std.proofs.Common.{◌≡◌, ℕ, suc, ◌+◌, ◌<◌, ◌≤◌, true, List, [], ◌∷◌, length, sym, ◌∙◌, subst, ⊎_elim, arith}
use Rattle.std.proofs.lemmas.Bool.{cases_order, eq-eqb, ne_eqb, lt-ltb, le-ltb, cond-true}
use Rattle.std.proofs.lemmas.List.Elements.{All-nil, All-cons}
use Rattle.std.specs.List.{All}
use Rattle.board.specs.Ranges.{InRange}
use Rattle.entries.specs.declared.Move.{Move}
use Rattle.entries.specs.declared.Position.{Position}
use Rattle.sheet_format.proofs.Boards.{board_laws}
use Rattle.sheet_format.specs.Boards.{count_before, entries_from, sheet_entries, tables_board}
use Rattle.sheet_format.specs.Lines.{count_from}
use Rattle.sheet_format.specs.Sheets.{Sheet, Room}
use Rattle.sheet_format.specs.WellFormed.{WellFormed}
use Rattle.table.proofs.Tests.{held_fit}
use Rattle.table.specs.Fit.{TablesHold, tables_fit}
use Rattle.table.specs.Laws.{SheetsHold}
use Rattle.table.specs.Meaning.{idle_board}

-- the moves before p and from p are some of the moves
counts_inside : (p : ℕ) (ms : List Move) → count_before p ms + count_from p ms ≤ length ms
counts_inside p [] = omega arith
counts_inside p (m ∷ ms) = more (counts_inside p ms)
  where
    more : count_before p ms + count_from p ms ≤ length ms → count_before p (m ∷ ms) + count_from p (m ∷ ms) ≤ length (m ∷ ms)
    more h = ⊎_elim (λ (e : m.from ≡ p). rw (eq-eqb m.from p e, le-ltb m.from p (omega arith)) (omega arith)) (⊎_elim (λ (l : m.from < p). rw (ne_eqb m.from p (λ e. omega arith), lt-ltb m.from p l) (omega arith)) (λ (g : p < m.from). rw (ne_eqb m.from p (λ e. omega arith), le-ltb m.from p (omega arith)) (omega arith))) (cases_order m.from p)

entries_inside : (ms : List Move) (p : ℕ) (xs : List Position) → All (λ e. e.first + e.degree ≤ length ms) (entries_from ms p xs)
entries_inside ms p [] = All-nil (λ e. e.first + e.degree ≤ length ms)
entries_inside ms p (x ∷ xs) = All-cons (λ e. e.first + e.degree ≤ length ms) _ _ (counts_inside p ms) (entries_inside ms (suc p) xs)

pub sheet_held : (z : Room) (s : Sheet) → WellFormed z s → TablesHold (sheet_entries s) s.moves s.start.position
sheet_held z s w = record { ranges = subst InRange (sym (board_laws.tables z s w)) (board_laws.ranges z s w); inside = entries_inside s.moves 0 s.positions }

-- the tables of a well-formed sheet pass the test
pub sheet_fits : (z : Room) (s : Sheet) → WellFormed z s → tables_fit (sheet_entries s) s.moves s.start.position ≡ true
sheet_fits z s w = held_fit (sheet_entries s) s.moves s.start.position (sheet_held z s w)

pub sheets_hold : SheetsHold
sheets_hold z s w = (sheet_held z s w, cond-true (tables_fit (sheet_entries s) s.moves s.start.position) (tables_board (sheet_entries s) s.moves s.start.position) idle_board (sheet_fits z s w) ∙ board_laws.tables z s w)
