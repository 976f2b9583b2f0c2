-- A board for tests: its positions stand in a line, and the last one rests.
use Rattle.std.specs.Prelude.{◌≡◌, ℕ, zero, suc, ◌+◌, ◌-◌, ◌%◌, ◌<◌, min, max, List, [], ◌∷◌, map, length, ◌==◌, slice_index}
use Rattle.std.proofs.Common.{sym, subst, not-suc-le-zero, le_of_suc-le-suc, arith}
use Rattle.std.specs.List.{range_with_len}
use Rattle.std.proofs.lemmas.List.FromFn.{length-map-range_with_len, get_or-map-range_with_len}
use Rattle.board.specs.declared.parts.Turn.TheVariants.{Arm, Person}
use Rattle.board.specs.Table.{Row, Table, row_at, move_at, absent_row}
use Rattle.board.specs.Ranges.{MoveInRange, RowInRange, InRange}
use Rattle.line.specs.declared.holder.Line.{Line}

-- 1 to 4,096 positions, one for each label
abbrev pub size_of : List ℕ → ℕ
size_of list = max 1 (min 4096 (length list))

-- position p, of n: one move for energy 1, to the next position or, from the last, to itself
abbrev pub line_row : List ℕ → ℕ → ℕ → Row
line_row list n p = record {
  turn = Arm;
  label = slice_index list p % 65536;
  rests = (p + 1 == n);
  moves = record { target = min (p + 1) (n - 1); bruise = 0; energy = 1 } ∷ [];
}

abbrev pub line_table : List ℕ → Table
line_table list = record { start = 0; rows = map (line_row list (size_of list)) (range_with_len 0 (size_of list)) }

abbrev pub means : Line → Table
means b = line_table b.labels.now

no_person : {P : Type 0} → Arm ≡ Person → P
no_person e = let z : ◌≡◌ {A = ℕ} 0 1 = cc in absurd (apart z)
  where
    apart : ◌≡◌ {A = ℕ} 0 1 → ⊥
    apart z = omega arith

row_in_range : (list : List ℕ) (n p : ℕ) → p < n → RowInRange n (line_row list n p)
row_in_range list n p h = record { label_top = omega arith; degree_top = omega arith; each_move = moves }
  where
    moves : (k : ℕ) → k < 1 → MoveInRange n Arm (move_at (line_row list n p) k)
    moves zero hk = record { lands = omega arith; bruise_top = omega arith; energy_top = omega arith; person_free = λ e. no_person e }
    moves (suc k) hk = absurd (not-suc-le-zero (le_of_suc-le-suc hk))

pub line_count : (list : List ℕ) → length (line_table list).rows ≡ size_of list
line_count list = length-map-range_with_len (line_row list (size_of list)) 0 (size_of list)

row_is : (list : List ℕ) (p : ℕ) → p < size_of list → row_at (line_table list) p ≡ line_row list (size_of list) p
row_is list p h = get_or-map-range_with_len (line_row list (size_of list)) 0 (size_of list) p p absent_row h (omega arith)

line_in_range : (list : List ℕ) → InRange (line_table list)
line_in_range list = record {
  few = omega (arith, line_count list);
  starts = omega (arith, line_count list);
  each_row = λ p h. (let hp : p < size_of list = subst (λ n. p < n) (line_count list) h in
      subst (λ n. RowInRange n (row_at (line_table list) p)) (sym (line_count list))
      (subst (RowInRange (size_of list)) (sym (row_is list p hp)) (row_in_range list (size_of list) p hp)));
}

pub means_in_range : (b : Line) → InRange (means b)
means_in_range b = line_in_range b.labels.now
