use Rattle.std.proofs.Common.{◌≡◌, ℕ, ◌-◌, ◌<◌, ◌≤◌, List, length, drop}
use Rattle.board.specs.Table.{Table}
use Rattle.cost.specs.Kind.{Kind}
use Rattle.game.specs.Rounds.{FixedPoint}
use Rattle.cells.specs.Written.{Holds}
use Rattle.cells.specs.declared.parts.Cell.{Cell}
use Rattle.rounds.proofs.fixed.settle.Given as goal

-- after n rounds: the first list holds their cells, and past the count both are what they were
pub record After {C : Type 0} (k : Kind C) (t : Table) (n : ℕ) (one two old-one old-two : List Cell) : Type 0 where
  pub few : n ≤ length t.rows
  pub holds : Holds k t n one
  pub rest_one : drop (length t.rows) one ≡ drop (length t.rows) old-one
  pub rest_two : drop (length t.rows) two ≡ drop (length t.rows) old-two
  pub not_yet : (m : ℕ) → m < n → FixedPoint k t m → ⊥

abbrev pub invariant-loop-two : goal.invariant-loop-two
invariant-loop-two g l = After g.C.Cost.kind (g.B.Board.meaning l.board) l.n l.one l.two l.fn.one l.fn.two

abbrev pub decreases-loop-two : goal.decreases-loop-two
decreases-loop-two g l = length (g.B.Board.meaning l.board).rows - l.n
