-- How refusals are spelled.
use Rattle.std.specs.Prelude.{ℕ, List, ◌++◌, codes, decimal}
use Rattle.refusal.specs.Number.{refusal_number}
use Rattle.refusal.specs.declared.Refusal.{Refusal}

-- the number
abbrev pub refusal_text : Refusal → List ℕ
refusal_text r = codes "refused " ++ decimal (refusal_number r)
