-- How costs and chosen moves are spelled. Numbers are decimal.
use Rattle.std.specs.Prelude.{ℕ, List, ◌++◌, Some, None, codes, decimal, Option}
use Rattle.wording.specs.declared.kinds.CostKind.{CostKind}
use Rattle.wording.specs.declared.kinds.CostKind.TheVariants.{Energy, Peak, Care}

-- the two numbers of a cost: the first alone, or bruise and energy
abbrev pub cost_text : CostKind → ℕ × ℕ → List ℕ
cost_text Energy n = decimal n.0
cost_text Peak n = decimal n.0
cost_text Care n = decimal n.0 ++ (codes "/" ++ decimal n.1)

-- a cost or none
abbrev pub value_text : CostKind → Option (ℕ × ℕ) → List ℕ
value_text kind None = codes "none"
value_text kind (Some n) = cost_text kind n

-- a chosen move or none
abbrev pub choice_text : Option ℕ → List ℕ
choice_text None = codes "-"
choice_text (Some m) = decimal m
