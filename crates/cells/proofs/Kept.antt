-- What the final cells say meets the promise.
use Rattle.std.proofs.Common.{◌≡◌, ℕ, ◌<◌, ◌≤◌, List, length, get_or, take, sym, ap, ◌∙◌, subst, ⊎_elim, arith}
use mathlib.Core.Path.{fun_ext}
use Rattle.std.proofs.lemmas.List.{get_or-take, get_or_past, length-take}
use Rattle.std.proofs.lemmas.Bool.{cases_lt}
use Rattle.std.specs.Option.{option_map}
use Rattle.board.specs.Table.{Table}
use Rattle.cost.specs.Kind.{Kind}
use Rattle.cost.specs.Laws.{CostLaws}
use Rattle.game.specs.Choices.{chosen}
use Rattle.game.specs.Promise.{Solved, Promise}
use Rattle.game.specs.Rounds.{round, NumberOfRounds}
use Rattle.game.specs.RunsKeep.{solution}
use Rattle.game.proofs.Choosing.{none_outside}
use Rattle.game.proofs.Promised.{promised}
use Rattle.game.proofs.Rounds.{outside}
use Rattle.cells.specs.Cells.{empty_cell, solved_cells}
use Rattle.cells.specs.Said.{solved_by}
use Rattle.cells.specs.Written.{values_of}
use Rattle.cells.specs.declared.parts.Cell.{Cell}
use Rattle.cells.proofs.Reading.{solved_cell, solved_value}

module _ {C : Type 0} (k : Kind C) (laws : CostLaws k) (t : Table) (n : ℕ) (old cells : List Cell) (is : cells ≡ solved_cells k t n old) where
  front_cell : (p : ℕ) → p < length t.rows → get_or (take (length t.rows) cells) p empty_cell ≡ get_or cells p empty_cell
  front_cell p h = get_or-take (length t.rows) cells p empty_cell h

  past_cell : (p : ℕ) → length t.rows ≤ p → get_or (take (length t.rows) cells) p empty_cell ≡ empty_cell
  past_cell p h = get_or_past (take (length t.rows) cells) p empty_cell (omega (arith, length-take (length t.rows) cells))

  pub said_cost : (p : ℕ) → values_of k (length t.rows) cells p ≡ round k t n p
  said_cost p =
      ⊎_elim (λ (h : p < length t.rows). ap (λ (c : Cell). option_map k.read c.cost) (front_cell p h) ∙ solved_value k laws t n old cells is p h)
      (λ (h : length t.rows ≤ p). ap (λ (c : Cell). option_map k.read c.cost) (past_cell p h) ∙ sym (outside k laws t n p h)) (cases_lt p (length t.rows))

  pub said_move : (p : ℕ) → (get_or (take (length t.rows) cells) p empty_cell).choice ≡ chosen k t n p
  said_move p =
      ⊎_elim (λ (h : p < length t.rows). ap (λ (c : Cell). c.choice) (front_cell p h ∙ solved_cell k laws t n old cells is p h))
      (λ (h : length t.rows ≤ p). ap (λ (c : Cell). c.choice) (past_cell p h) ∙ sym (none_outside k laws t n p h)) (cases_lt p (length t.rows))

  -- the cells say what the rounds and the chosen moves give
  pub said : solved_by k n (length t.rows) cells ≡ solution k t n
  said = λ i. record { rounds = n; cost = fun_ext said_cost i; move = fun_ext said_move i }

  pub said_promised : NumberOfRounds k t n → (budget : C) → Promise k t budget (solved_by k n (length t.rows) cells)
  said_promised number budget = subst (λ (s : Solved C). Promise k t budget s) (sym said) (promised k laws t n number budget)
