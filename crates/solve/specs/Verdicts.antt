-- Verdicts on the start.
use Rattle.std.specs.Prelude.{ℕ, cond, List, Some, None, codes, Option}
use Rattle.cost.specs.Kind.{Kind}
use Rattle.solve.specs.declared.verdict.Verdict.{Verdict}
use Rattle.solve.specs.declared.verdict.Verdict.TheVariants.{Within, Over, Never}

-- the verdict on a value: never for none, within where the cost is not above the budget
abbrev pub verdict_of : {C : Type 0} → Kind C → C → Option C → Verdict
verdict_of k budget None = Never
verdict_of k budget (Some w) = cond (k.leq w budget) Within Over

-- the word of each verdict
abbrev pub verdict_word : Verdict → List ℕ
verdict_word Within = codes "within"
verdict_word Over = codes "over"
verdict_word Never = codes "never"
