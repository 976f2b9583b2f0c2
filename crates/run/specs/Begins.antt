-- When a run does not begin.
use Rattle.std.specs.Prelude.{ℕ, cond, length, Some, None, Option, ◌==◌}
use Rattle.board.specs.Table.{Table}
use Rattle.refusal.specs.declared.Refusal.{Refusal}
use Rattle.refusal.specs.declared.Refusal.TheVariants.{OverBudget, NeverDone, OtherCount}
use Rattle.solve.specs.declared.verdict.Verdict.{Verdict}
use Rattle.solve.specs.declared.verdict.Verdict.TheVariants.{Within, Over, Never}

-- a verdict that no run begins on
abbrev pub verdict_refusal : Verdict → Option Refusal
verdict_refusal Within = None
verdict_refusal Over = Some OverBudget
verdict_refusal Never = Some NeverDone

-- the board's count first, then the verdict
abbrev pub begin_refusal : Table → ℕ → Verdict → Option Refusal
begin_refusal t count verdict = cond (length t.rows == count) (verdict_refusal verdict) (Some OtherCount)
