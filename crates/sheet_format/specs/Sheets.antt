-- What a sheet says.
use Rattle.std.specs.Prelude.{ℕ, Bool, List}
use Rattle.entries.specs.declared.Arrow.{Arrow}
use Rattle.entries.specs.declared.Move.{Move}
use Rattle.entries.specs.declared.Position.{Position}
use Rattle.entries.specs.declared.Rule.{Rule}
use Rattle.entries.specs.declared.Start.{Start}

-- states: whether each accepts; start: the first position, and the budget
pub record Sheet : Type 0 where
  pub positions : List Position
  pub moves : List Move
  pub states : List Bool
  pub arrows : List Arrow
  pub rules : List Rule
  pub start : Start

-- how many entries each of the caller's tables has room for
pub record Room : Type 0 where
  pub positions : ℕ
  pub moves : ℕ
  pub states : ℕ
  pub arrows : ℕ
  pub rules : ℕ
