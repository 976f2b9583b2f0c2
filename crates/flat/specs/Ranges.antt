-- That a table is within the ranges can be shown in one way only.
use Rattle.std.proofs.Math.Bridge.{le_prop}
use Rattle.std.specs.Coded.{coded_ℕ}
use denote.Struct.Props.{≡_prop}
use Rattle.board.specs.declared.parts.Step.{Step}
use Rattle.board.specs.declared.parts.Turn.{Turn}
use Rattle.board.specs.Ranges.{InRange, RowInRange, MoveInRange}
use Rattle.board.specs.Table.{Row, Table}
use Rattle.std.specs.Prelude.{ℕ}

move_prop : (n : ℕ) (turn : Turn) (s : Step) → IsProp (MoveInRange n turn s)
move_prop n turn s x y = λ i. record {
  lands = le_prop x.lands y.lands i;
  bruise_top = le_prop x.bruise_top y.bruise_top i;
  energy_top = le_prop x.energy_top y.energy_top i;
  person_free = λ e. (≡_prop coded_ℕ s.bruise 0 (x.person_free e).0 (y.person_free e).0 i, ≡_prop coded_ℕ s.energy 0 (x.person_free e).1 (y.person_free e).1 i);
}

row_prop : (n : ℕ) (r : Row) → IsProp (RowInRange n r)
row_prop n r x y = λ i. record {
  label_top = le_prop x.label_top y.label_top i;
  degree_top = le_prop x.degree_top y.degree_top i;
  each_move = λ k h. move_prop _ _ _ (x.each_move k h) (y.each_move k h) i;
}

pub in_range_prop : (t : Table) → IsProp (InRange t)
in_range_prop t x y = λ i. record {
  few = le_prop x.few y.few i;
  starts = le_prop x.starts y.starts i;
  each_row = λ p h. row_prop _ _ (x.each_row p h) (y.each_row p h) i;
}
