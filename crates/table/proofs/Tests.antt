-- The test of tables passes exactly those that hold a board.
use Rattle.std.proofs.Common.{◌≡◌, ℕ, ◌+◌, ◌≤◌, Bool, true, cond, ◌&&◌, eqb, List, map, length, get_or, refl, subst, arith}
use Rattle.std.proofs.lemmas.List.Elements.{All-from_get_or, All-weaker}
use Rattle.std.proofs.lemmas.List.Sums.{list_all-from_AllPass}
use Rattle.std.proofs.lemmas.List.{length-map, get_or-map}
use Rattle.std.proofs.lemmas.Bool.{and_from, le-leb, lt-ltb, eq-eqb}
use Rattle.std.specs.List.{All, list_all}
use Rattle.board.specs.declared.parts.Turn.{Turn}
use Rattle.board.specs.declared.parts.Turn.TheVariants.{Arm, Person}
use Rattle.board.specs.Ranges.{RowInRange, MoveInRange}
use Rattle.board.specs.Table.{Row, absent_row, absent_move}
use Rattle.entries.specs.declared.Move.{Move}
use Rattle.entries.specs.declared.PositionEntry.{PositionEntry}
use Rattle.sheet_format.specs.Boards.{row_of, step_of}
use Rattle.sheet_format.specs.Lines.{is_person}
use Rattle.table.specs.Fit.{TablesHold, move_fits, span, entry_fits, tables_fit}
use Rattle.table.specs.Laws.{TestsHold}
use Rattle.table.specs.Ranges.{EntryHolds, fit_entries, fit_in_range, length_span}

-- a test that all pass
all_pass : {X : Type 0} (f : X → Bool) (P : X → Type 0) → ((x : X) → P x → f x ≡ true) → (xs : List X) → All P xs → list_all f xs ≡ true
all_pass f P pass xs h = list_all-from_AllPass f xs (All-weaker P (λ x. f x ≡ true) pass xs h)

all_unmapped : {X Y : Type 0} (P : Y → Type 0) (f : X → Y) (xs : List X) → All P (map f xs) → All (λ x. P (f x)) xs
all_unmapped P f xs h = λ k d l. subst P (get_or-map f xs k d (f d) l) (h k (f d) (omega (arith, length-map xs f)))

free_passes : (turn : Turn) (m : Move) → (turn ≡ Person → (m.bruise ≡ 0) × (m.energy ≡ 0)) → cond (is_person turn) (eqb m.bruise 0 && eqb m.energy 0) true ≡ true
free_passes Arm m h = refl
free_passes Person m h = and_from (eqb m.bruise 0) (eqb m.energy 0) (eq-eqb m.bruise 0 (h refl).0) (eq-eqb m.energy 0 (h refl).1)

move_passes : (n : ℕ) (turn : Turn) (m : Move) → MoveInRange n turn (step_of m) → move_fits n turn m ≡ true
move_passes n turn m h = and_from _ _ (lt-ltb m.to n h.lands) (and_from _ _ (le-leb m.bruise 1000 h.bruise_top) (and_from _ _ (le-leb m.energy 1000000 h.energy_top) (free_passes turn m h.person_free)))

entry_passes : (n : ℕ) (ms : List Move) (e : PositionEntry) → EntryHolds n ms e → entry_fits n ms e ≡ true
entry_passes n ms e h =
    let count : length (map step_of (span ms e)) ≡ length (span ms e) = length-map (span ms e) step_of in
    let moves = all_unmapped (MoveInRange n e.position.turn) step_of (span ms e) (All-from_get_or (MoveInRange n e.position.turn) (map step_of (span ms e)) absent_move h.row.each_move) in
    and_from _ _ (lt-ltb e.position.label 65536 h.row.label_top) (and_from _ _ (le-leb e.degree 64 (omega (arith, count, length_span ms e h.inside, h.row.degree_top))) (and_from _ _ (le-leb (e.first + e.degree) (length ms) h.inside) (all_pass (move_fits n e.position.turn) (λ m. MoveInRange n e.position.turn (step_of m)) (move_passes n e.position.turn) (span ms e) moves)))

-- tables that hold a board pass
pub held_fit : (es : List PositionEntry) (ms : List Move) (start : ℕ) → TablesHold es ms start → tables_fit es ms start ≡ true
held_fit es ms start h =
    let row : PositionEntry → Row = λ e. row_of e.position (span ms e) in
    let count : length (map row es) ≡ length es = length-map es row in
    let rows : All (RowInRange (length es)) (map row es) = All-from_get_or (RowInRange (length es)) (map row es) absent_row (λ p l. subst (λ n. RowInRange n (get_or (map row es) p absent_row)) count (h.ranges.each_row p l)) in
    let each : All (EntryHolds (length es) ms) es = λ p d l. record { row = all_unmapped (RowInRange (length es)) row es rows p d l; inside = h.inside p d l } in
    and_from _ _ (le-leb (length es) 4096 (omega (arith, count, h.ranges.few))) (and_from _ _ (lt-ltb start (length es) (omega (arith, count, h.ranges.starts))) (all_pass (entry_fits (length es) ms) (EntryHolds (length es) ms) (entry_passes (length es) ms) es each))

pub fit_held : (es : List PositionEntry) (ms : List Move) (start : ℕ) → tables_fit es ms start ≡ true → TablesHold es ms start
fit_held es ms start h = record { ranges = fit_in_range es ms start h; inside = All-weaker (EntryHolds (length es) ms) (λ e. e.first + e.degree ≤ length ms) (λ e k. k.inside) es (fit_entries es ms start h) }

pub tests_hold : TestsHold
tests_hold es ms start = (fit_held es ms start, held_fit es ms start)
