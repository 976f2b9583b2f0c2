-- The rows of the joined table, and its ranges.
use Rattle.std.proofs.Common.{◌≡◌, ℕ, ◌+◌, ◌*◌, ◌/◌, ◌%◌, ◌<◌, ◌≤◌, length, sym, ◌∙◌, subst, ap₂, mul_comm, arith}
use Rattle.std.proofs.lemmas.Nat.{mul-add-lt, div-mul-add, mod-mul-add, div_below, mod_below}
use Rattle.std.proofs.lemmas.List.FromFn.{length-map-range_with_len, get_or-map-range_with_len}
use Rattle.std.proofs.lemmas.List.{get_or-map, length-map}
use Rattle.board.specs.declared.parts.Step.{Step}
use Rattle.board.specs.declared.parts.Turn.{Turn}
use Rattle.board.specs.Table.{Table, row_at, move_at, absent_row, absent_move}
use Rattle.board.specs.Ranges.{MoveInRange, RowInRange, InRange}
use Rattle.task.specs.Dfa.{Dfa, DfaInRange}
use Rattle.product.specs.Product.{joined_move, joined_row, joined}

pub joined_count : (t : Table) (d : Dfa) → length (joined t d).rows ≡ length t.rows * d.states
joined_count t d = length-map-range_with_len (λ i. joined_row t d (i / d.states) (i % d.states)) 0 (length t.rows * d.states)

pub place_below : (n m p z : ℕ) → p < n → z < m → p * m + z < n * m
place_below n m p z hp hz = omega (arith, mul-add-lt p m z n hp hz, mul_comm n m)

-- row i, by the pair that i stands for
pub row_of : (t : Table) (d : Dfa) (i : ℕ) → i < length t.rows * d.states → row_at (joined t d) i ≡ joined_row t d (i / d.states) (i % d.states)
row_of t d i h =
    get_or-map-range_with_len (λ i. joined_row t d (i / d.states) (i % d.states)) 0 (length t.rows * d.states) i i absent_row h (omega arith)

-- the row of position p with state z
pub row_pair : (t : Table) (d : Dfa) (p z : ℕ) → p < length t.rows → z < d.states → row_at (joined t d) (p * d.states + z) ≡ joined_row t d p z
row_pair t d p z hp hz =
    row_of t d (p * d.states + z) (place_below (length t.rows) d.states p z hp hz)
    ∙ ap₂ (joined_row t d) (div-mul-add p d.states z hz) (mod-mul-add p d.states z hz)

-- move k of a joined row
pub move_pair : (t : Table) (d : Dfa) (p z k : ℕ) → k < length (row_at t p).moves → move_at (joined_row t d p z) k ≡ joined_move t d z (move_at (row_at t p) k)
move_pair t d p z k h = get_or-map (joined_move t d z) (row_at t p).moves k absent_move absent_move h

module _ (t : Table) (d : Dfa) (fair : InRange t) (sound : DfaInRange d) where
  pub arrives : (q z : ℕ) → q < length t.rows → z < d.states
      → q * d.states + d.next z (row_at t q).label < length t.rows * d.states
  arrives q z hq hz = place_below (length t.rows) d.states q (d.next z (row_at t q).label) hq (sound.stays z (row_at t q).label hz)

  move_in_range : (turn : Turn) (z : ℕ) (s : Step) → z < d.states → MoveInRange (length t.rows) turn s
      → MoveInRange (length t.rows * d.states) turn (joined_move t d z s)
  move_in_range turn z s hz r = record {
    lands = arrives s.target z r.lands hz;
    bruise_top = r.bruise_top;
    energy_top = r.energy_top;
    person_free = r.person_free;
  }

  row_in_range : (p z : ℕ) → p < length t.rows → z < d.states → RowInRange (length t.rows * d.states) (joined_row t d p z)
  row_in_range p z hp hz = record {
    label_top = (fair.each_row p hp).label_top;
    degree_top = subst (λ n. n ≤ 64) (sym (length-map (row_at t p).moves (joined_move t d z))) (fair.each_row p hp).degree_top;
    each_move = λ k h. (let here : k < length (row_at t p).moves = subst (λ n. k < n) (length-map (row_at t p).moves (joined_move t d z)) h in
        subst (MoveInRange (length t.rows * d.states) (row_at t p).turn) (sym (move_pair t d p z k here))
        (move_in_range (row_at t p).turn z (move_at (row_at t p) k) hz ((fair.each_row p hp).each_move k here)));
  }

  some_states : 0 < d.states
  some_states = omega (arith, sound.starts)

  each_row : (i : ℕ) → i < length t.rows * d.states → RowInRange (length t.rows * d.states) (row_at (joined t d) i)
  each_row i h =
      subst (RowInRange (length t.rows * d.states)) (sym (row_of t d i h))
      (row_in_range (i / d.states) (i % d.states) (div_below i d.states (length t.rows) some_states h) (mod_below i d.states some_states))

  -- a joined table of at most 4,096 rows is within the ranges of a board
  pub joined_in_range : length t.rows * d.states ≤ 4096 → InRange (joined t d)
  joined_in_range h = record {
    few = subst (λ n. n ≤ 4096) (sym (joined_count t d)) h;
    starts = subst (λ n. (joined t d).start < n) (sym (joined_count t d)) (arrives t.start d.first fair.starts sound.starts);
    each_row = λ p hp. subst (λ n. RowInRange n (row_at (joined t d) p)) (sym (joined_count t d)) (each_row p (subst (λ n. p < n) (joined_count t d) hp));
  }
