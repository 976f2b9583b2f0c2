-- What solving says of the plan that it makes.
use Rattle.std.specs.Prelude.{◌≡◌, ℕ, List, length}
use Rattle.board.specs.Table.{Table}
use Rattle.cells.specs.Cells.{solved_cells}
use Rattle.cells.specs.declared.parts.Cell.{Cell}
use Rattle.cost.specs.Kind.{Kind}
use Rattle.game.specs.Rounds.{round, NumberOfRounds}
use Rattle.solve.specs.Verdicts.{verdict_of}
use Rattle.solve.specs.declared.plan.Plan.{Plan}

-- the budget is read as the charge of a move of this bruise and energy; `old` is what the list held
pub record Solves {C : Type 0} (k : Kind C) (t : Table) (bruise energy : ℕ) (old : List Cell) (p : Plan C) : Type 0 where
  pub number : NumberOfRounds k t p.rounds
  pub finals : p.cells.now ≡ solved_cells k t p.rounds old
  pub positions : p.count ≡ length t.rows
  pub starts : p.start ≡ t.start
  pub allowance : p.budget ≡ k.numbers (k.charge bruise energy)
  pub judged : p.verdict ≡ verdict_of k (k.charge bruise energy) (round k t p.rounds t.start)
