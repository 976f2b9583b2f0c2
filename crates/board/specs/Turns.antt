-- How turns are spelled.
use Rattle.std.specs.Prelude.{ℕ, List, codes}
use Rattle.board.specs.declared.parts.Turn.{Turn}
use Rattle.board.specs.declared.parts.Turn.TheVariants.{Arm, Person}

-- the word of each turn
abbrev pub turn_word : Turn → List ℕ
turn_word Arm = codes "a"
turn_word Person = codes "p"
