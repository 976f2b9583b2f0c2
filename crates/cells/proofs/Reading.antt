-- What cells say of the round that they hold.
use Rattle.std.proofs.Common.{◌≡◌, ℕ, ◌<◌, ◌≤◌, List, map, length, get_or, take, drop, Some, None, Option, sym, refl, ap, ◌∙◌, subst, ⊎_elim, arith}
use mathlib.Core.Path.{fun_ext}
use Rattle.std.proofs.lemmas.List.FromFn.{get_or-map-range_with_len, length-map-range_with_len}
use Rattle.std.proofs.lemmas.List.{get_or_append_left, get_or-take, get_or_past, length-append, length-take}
use Rattle.std.proofs.lemmas.Bool.{cases_lt}
use Rattle.std.specs.List.{range_with_len}
use Rattle.std.specs.Option.{option_map}
use Rattle.board.specs.Ranges.{InRange}
use Rattle.board.specs.Table.{Table}
use Rattle.board.specs.declared.parts.Step.{Step}
use Rattle.cost.specs.Kind.{Kind}
use Rattle.cost.specs.Laws.{CostLaws}
use Rattle.game.specs.Plays.{degree, move_of}
use Rattle.game.specs.Rounds.{round}
use Rattle.game.proofs.Rounds.{outside}
use Rattle.cells.specs.Cells.{empty_cell, final_cell, solved_cells}
use Rattle.cells.specs.Written.{round_cell, Holds, values_of}
use Rattle.cells.specs.declared.parts.Cell.{Cell}

module _ {C : Type 0} (k : Kind C) (laws : CostLaws k) where
  -- a value that is kept as numbers is read again
  pub read_written : (v : Option C) → option_map k.read (option_map k.numbers v) ≡ v
  read_written None = refl
  read_written (Some x) = ap Some (laws.reads_back x)

  module _ (t : Table) (n : ℕ) (cells : List Cell) (holds : Holds k t n cells) where
    at_front : (p : ℕ) → p < length t.rows → get_or (take (length t.rows) cells) p empty_cell ≡ round_cell k t n p
    at_front p h = ap (λ xs. get_or xs p empty_cell) holds ∙ get_or-map-range_with_len (round_cell k t n) 0 (length t.rows) p p empty_cell h (omega arith)

    pub held_cell : (p : ℕ) → p < length t.rows → get_or cells p empty_cell ≡ round_cell k t n p
    held_cell p h = sym (get_or-take (length t.rows) cells p empty_cell h) ∙ at_front p h

    pub held_value : (p : ℕ) → p < length t.rows → option_map k.read (get_or cells p empty_cell).cost ≡ round k t n p
    held_value p h = ap (λ (c : Cell). option_map k.read c.cost) (held_cell p h) ∙ read_written (round k t n p)

    pub long_enough : length t.rows ≤ length cells
    long_enough = omega (arith, length-take (length t.rows) cells, ap length holds, length-map-range_with_len (round_cell k t n) 0 (length t.rows))

    pub held_values : values_of k (length t.rows) cells ≡ round k t n
    held_values = fun_ext each
      where
        each : (p : ℕ) → values_of k (length t.rows) cells p ≡ round k t n p
        each p =
            ⊎_elim (λ (h : p < length t.rows). ap (λ (c : Cell). option_map k.read c.cost) (at_front p h) ∙ read_written (round k t n p))
            (λ (h : length t.rows ≤ p).
            ap (λ (c : Cell). option_map k.read c.cost) (get_or_past (take (length t.rows) cells) p empty_cell (omega (arith, length-take (length t.rows) cells)))
            ∙ sym (outside k laws t n p h)) (cases_lt p (length t.rows))

module _ {C : Type 0} (k : Kind C) (t : Table) (ranges : InRange t) (p m : ℕ) (inside : p < length t.rows) (there : m < degree t p) (s : Step) (is : s ≡ move_of t p m) where
  -- where a move leads there is a position
  pub lands : s.target < length t.rows
  lands = subst (λ (x : Step). x.target < length t.rows) (sym is) ((ranges.each_row p inside).each_move m there).lands

-- the list that solving leaves
module _ {C : Type 0} (k : Kind C) (laws : CostLaws k) (t : Table) (n : ℕ) (old cells : List Cell) (is : cells ≡ solved_cells k t n old) where
  pub solved_long : length t.rows ≤ length cells
  solved_long =
      omega (
        arith,
        ap length is,
        length-append (map (final_cell k t n) (range_with_len 0 (length t.rows))) (drop (length t.rows) old),
        length-map-range_with_len (final_cell k t n) 0 (length t.rows),
      )

  pub solved_cell : (p : ℕ) → p < length t.rows → get_or cells p empty_cell ≡ final_cell k t n p
  solved_cell p h =
      ap (λ xs. get_or xs p empty_cell) is
      ∙ get_or_append_left (map (final_cell k t n) (range_with_len 0 (length t.rows))) (drop (length t.rows) old) empty_cell p (omega (arith, length-map-range_with_len (final_cell k t n) 0 (length t.rows)))
      ∙ get_or-map-range_with_len (final_cell k t n) 0 (length t.rows) p p empty_cell h (omega arith)

  pub solved_value : (p : ℕ) → p < length t.rows → option_map k.read (get_or cells p empty_cell).cost ≡ round k t n p
  solved_value p h = ap (λ (c : Cell). option_map k.read c.cost) (solved_cell p h) ∙ read_written k laws (round k t n p)
