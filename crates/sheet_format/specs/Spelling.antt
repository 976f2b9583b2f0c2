-- How a sheet is written.
use Rattle.std.specs.Prelude.{ℕ, Bool, true, false, List, [], ◌∷◌, ◌++◌, length, codes, decimal}
use Rattle.std.specs.List.{flat_map}
use Rattle.board.specs.Turns.{turn_word}
use Rattle.entries.specs.declared.Arrow.{Arrow}
use Rattle.entries.specs.declared.Move.{Move}
use Rattle.entries.specs.declared.Position.{Position}
use Rattle.entries.specs.declared.Rule.{Rule}
use Rattle.entries.specs.declared.Rule.TheVariants.{Met, Never, Before, After}
use Rattle.entries.specs.declared.Start.{Start}
use Rattle.sheet_format.specs.Cuts.{line_of}
use Rattle.sheet_format.specs.Sheets.{Sheet}

-- the word of each mark
abbrev pub rest_word : Bool → List ℕ
rest_word true = codes "r"
rest_word false = codes "-"

abbrev pub accept_word : Bool → List ℕ
accept_word true = codes "y"
accept_word false = codes "n"

-- the words of each kind of line
abbrev pub position_words : Position → List (List ℕ)
position_words p = turn_word p.turn ∷ rest_word p.rests ∷ decimal p.label ∷ []

abbrev pub move_words : Move → List (List ℕ)
move_words m = decimal m.from ∷ decimal m.to ∷ decimal m.bruise ∷ decimal m.energy ∷ []

abbrev pub state_words : Bool → List (List ℕ)
state_words b = accept_word b ∷ []

abbrev pub arrow_words : Arrow → List (List ℕ)
arrow_words a = decimal a.from ∷ decimal a.need ∷ decimal a.bar ∷ decimal a.to ∷ []

abbrev pub rule_words : Rule → List (List ℕ)
rule_words (Met p) = codes "met" ∷ decimal p ∷ []
rule_words (Never p) = codes "never" ∷ decimal p ∷ []
rule_words (Before p q) = codes "before" ∷ decimal p ∷ decimal q ∷ []
rule_words (After p q) = codes "after" ∷ decimal p ∷ decimal q ∷ []

abbrev pub start_words : Start → List (List ℕ)
start_words s = decimal s.position ∷ decimal s.bruise ∷ decimal s.energy ∷ []

abbrev pub header_words : List ℕ → ℕ → List (List ℕ)
header_words name n = name ∷ decimal n ∷ []

-- a section: its word and its count, then a line for each entry
abbrev pub section_of : {A : Type 0} → List ℕ → (A → List (List ℕ)) → List A → List ℕ
section_of name f xs = line_of (header_words name (length xs)) ++ flat_map (λ x. line_of (f x)) xs

-- the bytes of a sheet
abbrev pub spelled : Sheet → List ℕ
spelled s =
    section_of (codes "positions") position_words s.positions ++
    (section_of (codes "moves") move_words s.moves ++
    (section_of (codes "states") state_words s.states ++
    (section_of (codes "arrows") arrow_words s.arrows ++
    (section_of (codes "rules") rule_words s.rules ++
    (line_of (header_words (codes "start") 1) ++ line_of (start_words s.start))))))
