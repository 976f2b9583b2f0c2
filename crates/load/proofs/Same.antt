-- A join of equal parts.
use Rattle.std.proofs.Common.{◌≡◌, Result, subst}
use Rattle.board.specs.Table.{Table}
use Rattle.flat.specs.declared.holder.FlatBoard.{FlatBoard}
use Rattle.task.specs.Dfa.{Dfa}
use Rattle.load.specs.Joins.{FlatJoin}
use Rattle.load.specs.declared.parts.LoadError.{LoadError}

pub same_join : (t u : Table) (a d : Dfa) (b e : Dfa) (r : Result FlatBoard LoadError) → t ≡ u → a ≡ d → b ≡ e → FlatJoin t a b r → FlatJoin u d e r
same_join t u a d b e r tu ad be h =
    subst (λ x. FlatJoin u d x r) be (subst (λ x. FlatJoin u x b r) ad (subst (λ x. FlatJoin x a b r) tu h))
