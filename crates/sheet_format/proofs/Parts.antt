-- Each section of a sheet is read as it was written.
use Rattle.std.proofs.Common.{ℕ, ◌≤◌, Bool, eqb, List, [], length, codes, arith}
use Rattle.std.proofs.lemmas.Bool.{cond_both}
use Rattle.std.specs.List.{AllByRecursion}
use Rattle.entries.specs.declared.Arrow.{Arrow}
use Rattle.entries.specs.declared.Move.{Move}
use Rattle.entries.specs.declared.Position.{Position}
use Rattle.entries.specs.declared.Rule.{Rule}
use Rattle.sheet_format.proofs.Entries.{StartFits, position_lawful, state_lawful, arrow_lawful, start_lawful}
use Rattle.sheet_format.proofs.Headers.{header_lawful}
use Rattle.sheet_format.proofs.Moves.{Next, move_lawful}
use Rattle.sheet_format.proofs.Readings.{Reads, next_line_reads}
use Rattle.sheet_format.proofs.Rules.{rule_lawful}
use Rattle.sheet_format.proofs.Sections.{EachAfter, each_reads, section_reads}
use Rattle.sheet_format.specs.Cuts.{line_of}
use Rattle.sheet_format.specs.Lines.{position_line, move_line, state_line, arrow_line, rule_line, start_line}
use Rattle.sheet_format.specs.Read.{most_arrows}
use Rattle.sheet_format.specs.Reading.{next_line, header, section}
use Rattle.sheet_format.specs.Sheets.{Room}
use Rattle.sheet_format.specs.Spelling.{position_words, move_words, state_words, arrow_words, rule_words, start_words, header_words, section_of}
use Rattle.sheet_format.specs.WellFormed.{ArrowFits, RuleFits, CountFits}

pub most_arrows_le : (m : ℕ) → most_arrows m ≤ 256
most_arrows_le m = cond_both (eqb m 0) 0 256 (λ n. n ≤ 256) (λ e. omega arith) (λ e. omega arith)

-- each section by itself
abbrev pub GoodPositions : Room → List Position → Type 0
GoodPositions z xs = CountFits 1 4096 z.positions (length xs) × AllByRecursion (λ p. p.label ≤ 65535) xs

abbrev pub GoodMoves : Room → List Position → List Move → Type 0
GoodMoves z ps xs = CountFits 0 4096 z.moves (length xs) × EachAfter (Next ps) [] xs

abbrev pub GoodStates : Room → List Bool → Type 0
GoodStates z xs = CountFits 0 64 z.states (length xs) × AllByRecursion (λ b. Unit {0}) xs

abbrev pub GoodArrows : Room → ℕ → List Arrow → Type 0
GoodArrows z m xs = CountFits 0 (most_arrows m) z.arrows (length xs) × AllByRecursion (ArrowFits m) xs

abbrev pub GoodRules : Room → List Rule → Type 0
GoodRules z xs = CountFits 0 5 z.rules (length xs) × AllByRecursion RuleFits xs

pub positions_reads : (z : Room) → Reads (section (codes "positions") 1 4096 z.positions position_line) (section_of (codes "positions") position_words) (GoodPositions z)
positions_reads z = each_reads position_line position_words (λ p. p.label ≤ 65535) position_lawful (codes "positions") (omega arith) 1 4096 z.positions (omega arith)

pub moves_reads : (z : Room) (ps : List Position) → GoodPositions z ps → Reads (section (codes "moves") 0 4096 z.moves (move_line ps)) (section_of (codes "moves") move_words) (GoodMoves z ps)
moves_reads z ps g = section_reads (move_line ps) move_words (Next ps) (move_lawful ps (omega (arith, g.0.most))) (codes "moves") (omega arith) 0 4096 z.moves (omega arith)

pub states_reads : (z : Room) → Reads (section (codes "states") 0 64 z.states state_line) (section_of (codes "states") state_words) (GoodStates z)
states_reads z = each_reads state_line state_words (λ b. Unit {0}) state_lawful (codes "states") (omega arith) 0 64 z.states (omega arith)

pub arrows_reads : (z : Room) (states : List Bool) → GoodStates z states → Reads (section (codes "arrows") 0 (most_arrows (length states)) z.arrows (arrow_line (length states))) (section_of (codes "arrows") arrow_words) (GoodArrows z (length states))
arrows_reads z states g = each_reads (arrow_line (length states)) arrow_words (ArrowFits (length states)) (arrow_lawful (length states) (omega (arith, g.0.most))) (codes "arrows") (omega arith) 0 (most_arrows (length states)) z.arrows (omega (arith, most_arrows_le (length states)))

pub rules_reads : (z : Room) → Reads (section (codes "rules") 0 5 z.rules rule_line) (section_of (codes "rules") rule_words) (GoodRules z)
rules_reads z = each_reads rule_line rule_words RuleFits rule_lawful (codes "rules") (omega arith) 0 5 z.rules (omega arith)

pub one_reads : Reads (next_line (header (codes "start") 1 1 1)) (λ n. line_of (header_words (codes "start") n)) (CountFits 1 1 1)
one_reads = next_line_reads (header (codes "start") 1 1 1) (header_words (codes "start")) (CountFits 1 1 1) (header_lawful (codes "start") (omega arith) 1 1 1 (omega arith))

pub start_reads : (n : ℕ) → n ≤ 10000000000 → Reads (next_line (start_line n)) (λ s. line_of (start_words s)) (StartFits n)
start_reads n h = next_line_reads (start_line n) start_words (StartFits n) (start_lawful n h)
