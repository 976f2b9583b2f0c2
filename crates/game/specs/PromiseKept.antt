-- Theorem: what the rounds and the chosen moves give meets the promise.
use Rattle.std.specs.Prelude.{ℕ}
use Rattle.board.specs.Table.{Table}
use Rattle.cost.specs.Kind.{Kind}
use Rattle.game.specs.Promise.{Promise}
use Rattle.game.specs.Rounds.{NumberOfRounds}
use Rattle.game.specs.RunsKeep.{solution}

abbrev pub PromiseKept : {C : Type 0} → Kind C → Type 0
PromiseKept {C} k = (t : Table) (n : ℕ) → NumberOfRounds k t n → (budget : C) → Promise k t budget (solution k t n)
