-- The listing of a solved board for one kind of cost. Every line ends with LF, byte 10.
use Rattle.std.specs.Prelude.{ℕ, zero, suc, List, [], ◌∷◌, ◌++◌, codes, decimal}
use Rattle.board.specs.Table.{Table, row_at}
use Rattle.board.specs.Turns.{turn_word}
use Rattle.cells.specs.declared.parts.Cell.{Cell}
use Rattle.solve.specs.Verdicts.{verdict_word}
use Rattle.solve.specs.declared.verdict.Verdict.{Verdict}
use Rattle.wording.specs.Texts.{value_text, choice_text}
use Rattle.wording.specs.Words.{kind_word}
use Rattle.wording.specs.declared.kinds.CostKind.{CostKind}

-- kind, rounds, verdict, and the cost of the start, whose cell is c
abbrev pub head_line : CostKind → ℕ → Verdict → Cell → List ℕ
head_line kind rounds verdict c = kind_word kind ++ (codes " " ++ (decimal rounds ++ (codes " " ++ (verdict_word verdict ++ (codes " " ++ (value_text kind c.cost ++ (10 ∷ [])))))))

-- number, turn, cost and chosen move of position p, whose cell is c
abbrev pub position_line : CostKind → Table → ℕ → Cell → List ℕ
position_line kind t p c =
    decimal p ++ (codes " " ++ (turn_word (row_at t p).turn ++ (codes " " ++ (value_text kind c.cost ++ (codes " " ++ (choice_text c.choice ++ (10 ∷ [])))))))

-- the lines of the first n positions
abbrev pub position_lines : CostKind → Table → (ℕ → Cell) → ℕ → List ℕ
position_lines kind t cell-of zero = []
position_lines kind t cell-of (suc n) = position_lines kind t cell-of n ++ position_line kind t n (cell-of n)

-- the whole listing
abbrev pub listing : CostKind → Table → ℕ → ℕ → ℕ → Verdict → (ℕ → Cell) → List ℕ
listing kind t count start rounds verdict cell-of = head_line kind rounds verdict (cell-of start) ++ position_lines kind t cell-of count
