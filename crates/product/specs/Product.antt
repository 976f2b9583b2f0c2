-- The table of a board joined with a task: position p with state z is p * states + z.
use Rattle.std.specs.Prelude.{ℕ, ◌+◌, ◌*◌, ◌/◌, ◌%◌, ◌&&◌, map, length}
use Rattle.std.specs.List.{range_with_len}
use Rattle.board.specs.declared.parts.Step.{Step}
use Rattle.board.specs.Table.{Row, Table, row_at}
use Rattle.task.specs.Dfa.{Dfa}

-- a move from state z: the label of its target is read on arrival
abbrev pub joined_move : Table → Dfa → ℕ → Step → Step
joined_move t d z s = record {
  target = s.target * d.states + d.next z (row_at t s.target).label;
  bruise = s.bruise;
  energy = s.energy;
}

-- position p with state z rests where p rests and z accepts
abbrev pub joined_row : Table → Dfa → ℕ → ℕ → Row
joined_row t d p z = record {
  turn = (row_at t p).turn;
  label = (row_at t p).label;
  rests = (row_at t p).rests && d.accepting z;
  moves = map (joined_move t d z) (row_at t p).moves;
}

-- row i is that of position i / states with state i % states; the start has read its own label
abbrev pub joined : Table → Dfa → Table
joined t d = record {
  start = t.start * d.states + d.next d.first (row_at t t.start).label;
  rows = map (λ i. joined_row t d (i / d.states) (i % d.states)) (range_with_len 0 (length t.rows * d.states));
}
