-- The sections of a sheet, one after another.
use Rattle.std.proofs.Common.{◌≡◌, ℕ, Bool, List, length, Ok, Result, codes, ap, ◌∙◌}
use Rattle.entries.specs.declared.Arrow.{Arrow}
use Rattle.entries.specs.declared.Move.{Move}
use Rattle.entries.specs.declared.Position.{Position}
use Rattle.entries.specs.declared.Rule.{Rule}
use Rattle.entries.specs.declared.Start.{Start}
use Rattle.sheet_format.specs.declared.Fault.{Fault}
use Rattle.sheet_format.specs.Fields.{on_ok}
use Rattle.sheet_format.specs.Lines.{position_line, move_line, state_line, arrow_line, rule_line, start_line}
use Rattle.sheet_format.specs.Read.{most_arrows, read_sections}
use Rattle.sheet_format.specs.Reading.{Left, Reading, done, ◌>>=◌, next_line, header, section}
use Rattle.sheet_format.specs.Sheets.{Sheet, Room}

-- what is still read after each section
module _ (z : Room) (ps : List Position) where
  abbrev pub from_start : List Move → List Bool → List Arrow → List Rule → Reading Sheet
  from_start ms ss arrows rs = next_line (start_line (length ps)) >>= (λ start. done (record { positions = ps; moves = ms; states = ss; arrows = arrows; rules = rs; start = start }))

  abbrev pub from_header : List Move → List Bool → List Arrow → List Rule → Reading Sheet
  from_header ms ss arrows rs = next_line (header (codes "start") 1 1 1) >>= (λ _. from_start ms ss arrows rs)

  abbrev pub from_rules : List Move → List Bool → List Arrow → Reading Sheet
  from_rules ms ss arrows = section (codes "rules") 0 5 z.rules rule_line >>= from_header ms ss arrows

  abbrev pub from_arrows : List Move → List Bool → Reading Sheet
  from_arrows ms ss = section (codes "arrows") 0 (most_arrows (length ss)) z.arrows (arrow_line (length ss)) >>= from_rules ms ss

  abbrev pub from_states : List Move → Reading Sheet
  from_states ms = section (codes "states") 0 64 z.states state_line >>= from_arrows ms

  abbrev pub from_moves : Reading Sheet
  from_moves = section (codes "moves") 0 4096 z.moves (move_line ps) >>= from_states

-- the readings before the start line were made, and that line gave r
pub sections_read : (z : Room) (l l₁ l₂ l₃ l₄ l₅ l₆ : Left) (ps : List Position) (ms : List Move) (ss : List Bool) (arrows : List Arrow) (rs : List Rule) (one : ℕ) (r : Result (Start × Left) Fault) → section (codes "positions") 1 4096 z.positions position_line l ≡ Ok (ps, l₁) → section (codes "moves") 0 4096 z.moves (move_line ps) l₁ ≡ Ok (ms, l₂) → section (codes "states") 0 64 z.states state_line l₂ ≡ Ok (ss, l₃) → section (codes "arrows") 0 (most_arrows (length ss)) z.arrows (arrow_line (length ss)) l₃ ≡ Ok (arrows, l₄) → section (codes "rules") 0 5 z.rules rule_line l₄ ≡ Ok (rs, l₅) → next_line (header (codes "start") 1 1 1) l₅ ≡ Ok (one, l₆) → next_line (start_line (length ps)) l₆ ≡ r → read_sections z l ≡ on_ok r (λ y. Ok (record { positions = ps; moves = ms; states = ss; arrows = arrows; rules = rs; start = y.0 }, y.1))
sections_read z l l₁ l₂ l₃ l₄ l₅ l₆ ps ms ss arrows rs one r p m s a u h e =
    ap (λ x. on_ok x (λ y. from_moves z y.0 y.1)) p ∙ ap (λ x. on_ok x (λ y. from_states z ps y.0 y.1)) m ∙ ap (λ x. on_ok x (λ y. from_arrows z ps ms y.0 y.1)) s ∙ ap (λ x. on_ok x (λ y. from_rules z ps ms ss y.0 y.1)) a ∙ ap (λ x. on_ok x (λ y. from_header z ps ms ss arrows y.0 y.1)) u ∙ ap (λ x. on_ok x (λ y. from_start z ps ms ss arrows rs y.1)) h ∙ ap (λ x. on_ok x (λ y. Ok (record { positions = ps; moves = ms; states = ss; arrows = arrows; rules = rs; start = y.0 }, y.1))) e
