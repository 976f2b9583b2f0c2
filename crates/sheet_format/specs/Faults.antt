-- How faults are spelled.
use Rattle.std.specs.Prelude.{ℕ, List, ◌++◌, codes, decimal}
use Rattle.refusal.specs.Text.{refusal_text}
use Rattle.sheet_format.specs.declared.Fault.{Fault}

-- the fault of a sheet: number, line and word
abbrev pub fault_text : Fault → List ℕ
fault_text f = refusal_text f.refusal ++ (codes " " ++ (decimal f.line ++ (codes " " ++ decimal f.word)))
