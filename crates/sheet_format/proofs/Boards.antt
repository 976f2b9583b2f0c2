-- The board of a well-formed sheet.
use Rattle.std.proofs.Common.{◌≡◌, ℕ, ◌<◌, ◌≤◌, true, eqb, List, map, length, get_or, sym, ap, subst, zero-add, arith}
use Rattle.std.proofs.ByRecursion.{All-get_or, all_kept_by, kept_by_passes}
use Rattle.std.proofs.lemmas.List.{get_or-map, length-map}
use Rattle.std.proofs.lemmas.Bool.{eqb-true}
use Rattle.std.specs.List.{AllByRecursion}
use Rattle.board.specs.Ranges.{InRange, RowInRange, MoveInRange}
use Rattle.board.specs.Table.{absent_move}
use Rattle.entries.specs.declared.Move.{Move}
use Rattle.entries.specs.declared.Position.{Position}
use Rattle.sheet_format.proofs.Rows.{length_rows, row_here, table_rows}
use Rattle.sheet_format.proofs.Sorted.{moves_from}
use Rattle.sheet_format.specs.Boards.{step_of, row_of, sheet_board, BoardLaws}
use Rattle.sheet_format.specs.Lines.{absent_position, count_from}
use Rattle.sheet_format.specs.Sheets.{Sheet, Room}
use Rattle.sheet_format.specs.WellFormed.{WellFormed, MoveFits}

-- a move that fits is in range for the turn of the position where it starts
step_fits : (xs : List Position) (p : ℕ) (m : Move) → MoveFits xs m → m.from ≡ p → MoveInRange (length xs) (get_or xs p absent_position).turn (step_of m)
step_fits xs p m f e = record { lands = f.to; bruise_top = f.bruise; energy_top = f.energy; person_free = rw (← e) f.free }

absent : Move
absent = record { from = 0; to = 0; bruise = 0; energy = 0 }

-- the moves from p are in range
step_here : (xs : List Position) (ms : List Move) → AllByRecursion (MoveFits xs) ms → (p k : ℕ) → k < length (moves_from p ms) → MoveInRange (length xs) (get_or xs p absent_position).turn (get_or (map step_of (moves_from p ms)) k absent_move)
step_here xs ms f p k h =
    let m = get_or (moves_from p ms) k absent in
    let fits = All-get_or (MoveFits xs) (moves_from p ms) k absent h (all_kept_by (λ m. eqb m.from p) (MoveFits xs) ms f) in
    let here = eqb-true m.from p (All-get_or (λ m. eqb m.from p ≡ true) (moves_from p ms) k absent h (kept_by_passes (λ m. eqb m.from p) ms)) in
    subst (MoveInRange (length xs) (get_or xs p absent_position).turn) (sym (get_or-map step_of (moves_from p ms) k absent absent_move h)) (step_fits xs p m fits here)

row_fits : (z : Room) (s : Sheet) → WellFormed z s → (p : ℕ) → p < length s.positions → RowInRange (length s.positions) (row_of (get_or s.positions p absent_position) (moves_from p s.moves))
row_fits z s w p h =
    let same : length (map step_of (moves_from p s.moves)) ≡ count_from p s.moves = length-map (moves_from p s.moves) step_of in
    record {
      label_top = omega (arith, All-get_or (λ x. x.label ≤ 65535) s.positions p absent_position h w.labels);
      degree_top = omega (arith, same, w.few p);
      each_move = λ k l. step_here s.positions s.moves w.each_move p k (omega (arith, same));
    }

board_in_range : (z : Room) (s : Sheet) → WellFormed z s → InRange (sheet_board s)
board_in_range z s w =
    let n : length (sheet_board s).rows ≡ length s.positions = length_rows s.moves 0 s.positions in
    record {
      few = omega (arith, n, w.positions.most);
      starts = omega (arith, n, w.start);
      each_row = λ p h.
          let l : p < length s.positions = omega (arith, n) in
          rw (n, row_here s.moves 0 s.positions p l, zero-add p) (row_fits z s w p l);
    }

-- the laws of a sheet's board
pub board_laws : BoardLaws
board_laws = record {
  ranges = board_in_range;
  tables = λ z s w. ap (λ rs. record { start = s.start.position; rows = rs }) (table_rows s.moves w.sorted 0 s.positions);
}
