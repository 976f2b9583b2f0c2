-- The rows of a line.
use Rattle.std.proofs.Common.{◌≡◌, ℕ, ◌<◌, ◌≤◌, List, Some, sym, ap, ◌∙◌, ⊎_elim, nat_lt, arith}
use Rattle.std.specs.Bool.{then_some}
use Rattle.std.specs.List.{slice_get}
use Rattle.std.proofs.lemmas.Bool.{cases_lt, lt-ltb, le-ltb}
use Rattle.std.proofs.lemmas.List.FromFn.{get_or-map-range_with_len}
use Rattle.std.proofs.lemmas.Option.{slice_get-get_or, slice_get_past}
use Rattle.board.specs.Table.{absent_row}
use Rattle.line.specs.Line.{size_of, line_row, line_table, line_count}

-- a position is there where it is below the size
pub there : (list : List ℕ) (p : ℕ) → slice_get (line_table list).rows p ≡ then_some (nat_lt p (size_of list)) (line_row list (size_of list) p)
there list p =
    ⊎_elim
    (λ (h : p < size_of list).
    slice_get-get_or (line_table list).rows p absent_row (omega (arith, line_count list))
    ∙ ap Some (get_or-map-range_with_len (line_row list (size_of list)) 0 (size_of list) p p absent_row h (omega arith))
    ∙ ap (λ b. then_some b (line_row list (size_of list) p)) (sym (lt-ltb p (size_of list) h)))
    (λ (h : size_of list ≤ p).
    slice_get_past (line_table list).rows p (omega (arith, line_count list))
    ∙ ap (λ b. then_some b (line_row list (size_of list) p)) (sym (le-ltb p (size_of list) h)))
    (cases_lt p (size_of list))
