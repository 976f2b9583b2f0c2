-- Tables that pass the test hold a board within the ranges.
use Rattle.std.specs.Prelude.{◌≡◌, ℕ, ◌+◌, ◌<◌, ◌≤◌, Bool, true, cond, ◌&&◌, List, map, length, drop, ◌==◌, slice_index_or}
use Rattle.std.proofs.Common.{sym, subst, arith}
use Rattle.std.proofs.lemmas.List.Elements.{All-get_or, All-map, All-weaker}
use Rattle.std.proofs.lemmas.List.Sums.{AllPass-from_list_all}
use Rattle.std.proofs.lemmas.List.{length-map, length-take-le, length-drop}
use Rattle.std.proofs.lemmas.Bool.{and_parts, leb-true, ltb-true, eqb-true}
use Rattle.std.specs.List.{All, list_all}
use Rattle.board.specs.declared.parts.Turn.{Turn}
use Rattle.board.specs.declared.parts.Turn.TheVariants.{Person}
use Rattle.board.specs.Ranges.{InRange, RowInRange, MoveInRange}
use Rattle.board.specs.Table.{Row, absent_row, absent_move}
use Rattle.entries.specs.declared.Move.{Move}
use Rattle.entries.specs.declared.PositionEntry.{PositionEntry}
use Rattle.sheet_format.specs.Boards.{row_of, step_of, tables_board}
use Rattle.sheet_format.specs.Lines.{is_person}
use Rattle.table.specs.Fit.{move_fits, span, entry_fits, tables_fit}

-- all elements that pass a test have what it shows
pub every_all : {X : Type 0} (f : X → Bool) (P : X → Type 0) → ((x : X) → f x ≡ true → P x) → (xs : List X) → list_all f xs ≡ true → All P xs
every_all f P show xs h = All-weaker (λ x. f x ≡ true) P show xs (AllPass-from_list_all f xs h)

person_free : (turn : Turn) (m : Move) → cond (is_person turn) (m.bruise == 0 && m.energy == 0) true ≡ true → turn ≡ Person → (m.bruise ≡ 0) × (m.energy ≡ 0)
person_free turn m h e =
    let both = and_parts (m.bruise == 0) (m.energy == 0) (rw e at h) in
    (eqb-true m.bruise 0 both.0, eqb-true m.energy 0 both.1)

move_shows : (n : ℕ) (turn : Turn) (m : Move) → move_fits n turn m ≡ true → MoveInRange n turn (step_of m)
move_shows n turn m h =
    let a = and_parts _ _ h in
    let b = and_parts _ _ a.1 in
    let d = and_parts _ _ b.1 in
    record { lands = ltb-true m.to n a.0; bruise_top = leb-true m.bruise 1000 b.0; energy_top = leb-true m.energy 1000000 d.0; person_free = person_free turn m d.1 }

-- what the test shows of an entry
pub record EntryHolds (n : ℕ) (ms : List Move) (e : PositionEntry) : Type 0 where
  pub row : RowInRange n (row_of e.position (span ms e))
  pub inside : e.first + e.degree ≤ length ms

-- an entry whose moves lie inside the move table has as many as it says
pub length_span : (ms : List Move) (e : PositionEntry) → e.first + e.degree ≤ length ms → length (span ms e) ≡ e.degree
length_span ms e h = length-take-le e.degree (drop e.first ms) (omega (arith, length-drop e.first ms))

entry_parts : (n : ℕ) (ms : List Move) (e : PositionEntry) → entry_fits n ms e ≡ true → (e.position.label < 65536) × (e.degree ≤ 64) × (e.first + e.degree ≤ length ms) × All (λ m. MoveInRange n e.position.turn (step_of m)) (span ms e)
entry_parts n ms e h =
    let a = and_parts _ _ h in
    let b = and_parts _ _ a.1 in
    let d = and_parts _ _ b.1 in
    (ltb-true e.position.label 65536 a.0, leb-true e.degree 64 b.0, leb-true (e.first + e.degree) (length ms) d.0, every_all (move_fits n e.position.turn) (λ m. MoveInRange n e.position.turn (step_of m)) (move_shows n e.position.turn) (span ms e) d.1)

pub entry_shows : (n : ℕ) (ms : List Move) (e : PositionEntry) → entry_fits n ms e ≡ true → EntryHolds n ms e
entry_shows n ms e h =
    let parts = entry_parts n ms e h in
    let count : length (map step_of (span ms e)) ≡ length (span ms e) = length-map (span ms e) step_of in
    record {
      row = record {
        label_top = parts.0;
        degree_top = omega (arith, count, length_span ms e parts.2, parts.1);
        each_move = λ k l. All-get_or (MoveInRange n e.position.turn) (map step_of (span ms e)) k absent_move l (All-map (MoveInRange n e.position.turn) step_of (span ms e) parts.3);
      };
      inside = parts.2;
    }

-- what the test shows of tables
fit_parts : (es : List PositionEntry) (ms : List Move) (start : ℕ) → tables_fit es ms start ≡ true → (length es ≤ 4096) × (start < length es) × All (EntryHolds (length es) ms) es
fit_parts es ms start h =
    let a = and_parts _ _ h in
    let b = and_parts _ _ a.1 in
    (leb-true (length es) 4096 a.0, ltb-true start (length es) b.0, every_all (entry_fits (length es) ms) (EntryHolds (length es) ms) (entry_shows (length es) ms) es b.1)

pub fit_entries : (es : List PositionEntry) (ms : List Move) (start : ℕ) → tables_fit es ms start ≡ true → All (EntryHolds (length es) ms) es
fit_entries es ms start h = (fit_parts es ms start h).2

pub fit_in_range : (es : List PositionEntry) (ms : List Move) (start : ℕ) → tables_fit es ms start ≡ true → InRange (tables_board es ms start)
fit_in_range es ms start h =
    let parts = fit_parts es ms start h in
    let row : PositionEntry → Row = λ e. row_of e.position (span ms e) in
    let count : length (map row es) ≡ length es = length-map es row in
    let rows : All (RowInRange (length es)) (map row es) = All-map (RowInRange (length es)) row es (All-weaker (EntryHolds (length es) ms) (λ e. RowInRange (length es) (row e)) (λ e k. k.row) es parts.2) in
    record {
      few = omega (arith, count, parts.0);
      starts = omega (arith, count, parts.1);
      each_row = λ p l. subst (λ n. RowInRange n (slice_index_or (map row es) p absent_row)) (sym count) (All-get_or (RowInRange (length es)) (map row es) p absent_row l rows);
    }
