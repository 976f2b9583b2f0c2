-- The word of each kind.
use Rattle.std.specs.Prelude.{ℕ, List, codes}
use Rattle.wording.specs.declared.kinds.CostKind.{CostKind}
use Rattle.wording.specs.declared.kinds.CostKind.TheVariants.{Energy, Peak, Care}

abbrev pub kind_word : CostKind → List ℕ
kind_word Energy = codes "energy"
kind_word Peak = codes "peak"
kind_word Care = codes "care"
