-- A sheet is read as it was written: its sections one after another.
use Rattle.std.proofs.Common.{◌≡◌, ℕ, ◌≤◌, Bool, List, ◌++◌, length, codes, sym, refl, ap, arith}
use Rattle.entries.specs.declared.Arrow.{Arrow}
use Rattle.entries.specs.declared.Move.{Move}
use Rattle.entries.specs.declared.Position.{Position}
use Rattle.entries.specs.declared.Rule.{Rule}
use Rattle.sheet_format.proofs.Entries.{StartFits}
use Rattle.sheet_format.proofs.Parts.{GoodPositions, GoodMoves, GoodStates, GoodArrows, GoodRules, positions_reads, moves_reads, states_reads, arrows_reads, rules_reads, one_reads, start_reads}
use Rattle.sheet_format.proofs.Readings.{Reads, part_reads, made_reads}
use Rattle.sheet_format.proofs.Sequence.{read_start, read_rules, read_arrows, read_states, read_moves}
use Rattle.sheet_format.specs.Cuts.{line_of}
use Rattle.sheet_format.specs.Lines.{position_line, move_line, state_line, arrow_line, rule_line, start_line}
use Rattle.sheet_format.specs.Read.{most_arrows, read_sections}
use Rattle.sheet_format.specs.Reading.{next_line, header, section}
use Rattle.sheet_format.specs.Sheets.{Sheet, Room}
use Rattle.sheet_format.specs.Spelling.{position_words, move_words, state_words, arrow_words, rule_words, start_words, header_words, section_of, spelled}
use Rattle.sheet_format.specs.WellFormed.{CountFits}

-- what a sheet still shows after the sections that are read
abbrev FromStart : List Position → List Move → List Bool → List Arrow → List Rule → Sheet → Type 0
FromStart ps ms states arrows rs s = StartFits (length ps) s.start × (record { positions = ps; moves = ms; states = states; arrows = arrows; rules = rs; start = s.start } ≡ s)

abbrev FromHeader : List Position → List Move → List Bool → List Arrow → List Rule → Sheet → Type 0
FromHeader ps ms states arrows rs s = CountFits 1 1 1 1 × FromStart ps ms states arrows rs s

abbrev FromRules : Room → List Position → List Move → List Bool → List Arrow → Sheet → Type 0
FromRules z ps ms states arrows s = GoodRules z s.rules × FromHeader ps ms states arrows s.rules s

abbrev FromArrows : Room → List Position → List Move → List Bool → Sheet → Type 0
FromArrows z ps ms states s = GoodArrows z (length states) s.arrows × FromRules z ps ms states s.arrows s

abbrev FromStates : Room → List Position → List Move → Sheet → Type 0
FromStates z ps ms s = GoodStates z s.states × FromArrows z ps ms s.states s

abbrev FromMoves : Room → List Position → Sheet → Type 0
FromMoves z ps s = GoodMoves z ps s.moves × FromStates z ps s.moves s

abbrev pub GoodSheet : Room → Sheet → Type 0
GoodSheet z s = GoodPositions z s.positions × FromMoves z s.positions s

-- and how the rest is written
abbrev spelled_from_start : Sheet → List ℕ
spelled_from_start s = line_of (header_words (codes "start") 1) ++ line_of (start_words s.start)

abbrev spelled_from_rules : Sheet → List ℕ
spelled_from_rules s = section_of (codes "rules") rule_words s.rules ++ spelled_from_start s

abbrev spelled_from_arrows : Sheet → List ℕ
spelled_from_arrows s = section_of (codes "arrows") arrow_words s.arrows ++ spelled_from_rules s

abbrev spelled_from_states : Sheet → List ℕ
spelled_from_states s = section_of (codes "states") state_words s.states ++ spelled_from_arrows s

abbrev spelled_from_moves : Sheet → List ℕ
spelled_from_moves s = section_of (codes "moves") move_words s.moves ++ spelled_from_states s

module _ (z : Room) where
  from_header : (ps : List Position) → length ps ≤ 10000000000 → (ms : List Move) (states : List Bool) (arrows : List Arrow) (rs : List Rule) → Reads (read_start ps ms states arrows rs) spelled_from_start (FromHeader ps ms states arrows rs)
  from_header ps h ms states arrows rs = part_reads (next_line (header (codes "start") 1 1 1)) _ (λ n. line_of (header_words (codes "start") n)) (CountFits 1 1 1) (λ s. line_of (start_words s.start)) (λ n. FromStart ps ms states arrows rs) (λ s. 1) one_reads (λ n g. made_reads (next_line (start_line (length ps))) (λ s. line_of (start_words s)) (StartFits (length ps)) (λ st. record { positions = ps; moves = ms; states = states; arrows = arrows; rules = rs; start = st }) (λ s. s.start) (λ st. refl) (start_reads (length ps) h)) (λ n s g k. omega arith)

  from_rules : (ps : List Position) → length ps ≤ 10000000000 → (ms : List Move) (states : List Bool) (arrows : List Arrow) → Reads (read_rules z ps ms states arrows) spelled_from_rules (FromRules z ps ms states arrows)
  from_rules ps h ms states arrows = part_reads (section (codes "rules") 0 5 z.rules rule_line) (read_start ps ms states arrows) (section_of (codes "rules") rule_words) (GoodRules z) spelled_from_start (FromHeader ps ms states arrows) (λ s. s.rules) (rules_reads z) (λ rs g. from_header ps h ms states arrows rs) (λ rs s g k. ap (λ (t : Sheet). t.rules) (sym k.1.1))

  from_arrows : (ps : List Position) → length ps ≤ 10000000000 → (ms : List Move) (states : List Bool) → GoodStates z states → Reads (read_arrows z ps ms states) spelled_from_arrows (FromArrows z ps ms states)
  from_arrows ps h ms states good = part_reads (section (codes "arrows") 0 (most_arrows (length states)) z.arrows (arrow_line (length states))) (read_rules z ps ms states) (section_of (codes "arrows") arrow_words) (GoodArrows z (length states)) spelled_from_rules (FromRules z ps ms states) (λ s. s.arrows) (arrows_reads z states good) (λ arrows g. from_rules ps h ms states arrows) (λ arrows s g k. ap (λ (t : Sheet). t.arrows) (sym k.1.1.1))

  from_states : (ps : List Position) → length ps ≤ 10000000000 → (ms : List Move) → Reads (read_states z ps ms) spelled_from_states (FromStates z ps ms)
  from_states ps h ms = part_reads (section (codes "states") 0 64 z.states state_line) (read_arrows z ps ms) (section_of (codes "states") state_words) (GoodStates z) spelled_from_arrows (FromArrows z ps ms) (λ s. s.states) (states_reads z) (λ states g. from_arrows ps h ms states g) (λ states s g k. ap (λ (t : Sheet). t.states) (sym k.1.1.1.1))

  from_moves : (ps : List Position) → GoodPositions z ps → Reads (read_moves z ps) spelled_from_moves (FromMoves z ps)
  from_moves ps good = part_reads (section (codes "moves") 0 4096 z.moves (move_line ps)) (read_states z ps) (section_of (codes "moves") move_words) (GoodMoves z ps) spelled_from_states (FromStates z ps) (λ s. s.moves) (moves_reads z ps good) (λ ms g. from_states ps (omega (arith, good.0.most)) ms) (λ ms s g k. ap (λ (t : Sheet). t.moves) (sym k.1.1.1.1.1))

  -- the whole
  pub sections_reads : Reads (read_sections z) spelled (GoodSheet z)
  sections_reads = part_reads (section (codes "positions") 1 4096 z.positions position_line) (read_moves z) (section_of (codes "positions") position_words) (GoodPositions z) spelled_from_moves (FromMoves z) (λ s. s.positions) (positions_reads z) (λ ps g. from_moves ps g) (λ ps s g k. ap (λ (t : Sheet). t.positions) (sym k.1.1.1.1.1.1))
