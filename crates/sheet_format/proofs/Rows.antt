-- The rows of a sheet's board.
use Rattle.std.proofs.Common.{◌≡◌, ℕ, zero, suc, ◌+◌, ◌<◌, List, [], ◌∷◌, map, length, get_or, take, drop, refl, ap, ◌∙◌, ap₂, arith}
use Rattle.board.specs.Table.{absent_row}
use Rattle.entries.specs.declared.Move.{Move}
use Rattle.entries.specs.declared.Position.{Position}
use Rattle.sheet_format.proofs.Sorted.{moves_from, slice_from}
use Rattle.sheet_format.specs.Boards.{row_of, rows_from, entries_from}
use Rattle.sheet_format.specs.Lines.{absent_position}
use Rattle.sheet_format.specs.WellFormed.{NeverFalling}

-- a row for each position
pub length_rows : (ms : List Move) (p : ℕ) (xs : List Position) → length (rows_from ms p xs) ≡ length xs
length_rows ms p [] = refl
length_rows ms p (x ∷ xs) = ap suc (length_rows ms (suc p) xs)

pub row_here : (ms : List Move) (p : ℕ) (xs : List Position) (i : ℕ) → i < length xs → get_or (rows_from ms p xs) i absent_row ≡ row_of (get_or xs i absent_position) (moves_from (p + i) ms)
row_here ms p [] i h = absurd (omega arith)
row_here ms p (x ∷ xs) zero h = ap (λ k. row_of x (moves_from k ms)) (omega arith)
row_here ms p (x ∷ xs) (suc i) h = row_here ms (suc p) xs i (omega arith) ∙ ap (λ k. row_of (get_or xs i absent_position) (moves_from k ms)) (omega arith)

-- the tables hold the same rows
pub table_rows : (ms : List Move) → NeverFalling 0 ms → (p : ℕ) (xs : List Position) → map (λ e. row_of e.position (take e.degree (drop e.first ms))) (entries_from ms p xs) ≡ rows_from ms p xs
table_rows ms s p [] = refl
table_rows ms s p (x ∷ xs) = ap₂ (λ r rs. r ∷ rs) (ap (row_of x) (slice_from p 0 ms s)) (table_rows ms s (suc p) xs)
