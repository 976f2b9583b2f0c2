-- Reading a sheet does not look past its last line.
use Rattle.std.proofs.Common.{Bool, List, length, codes}
use Rattle.entries.specs.declared.Arrow.{Arrow}
use Rattle.entries.specs.declared.Move.{Move}
use Rattle.entries.specs.declared.Position.{Position}
use Rattle.entries.specs.declared.Rule.{Rule}
use Rattle.sheet_format.proofs.Sequence.{read_start, read_rules, read_arrows, read_states, read_moves}
use Rattle.sheet_format.proofs.Stays.{Local, bind_local, done_local, next_line_local, section_local}
use Rattle.sheet_format.specs.Lines.{position_line, move_line, state_line, arrow_line, rule_line, start_line}
use Rattle.sheet_format.specs.Read.{most_arrows, read_sections}
use Rattle.sheet_format.specs.Reading.{next_line, header, section}
use Rattle.sheet_format.specs.Sheets.{Room}

start_local : (ps : List Position) (ms : List Move) (states : List Bool) (arrows : List Arrow) (rs : List Rule) → Local (read_start ps ms states arrows rs)
start_local ps ms states arrows rs = bind_local (next_line (header (codes "start") 1 1 1)) _ (next_line_local (header (codes "start") 1 1 1)) (λ n. bind_local (next_line (start_line (length ps))) _ (next_line_local (start_line (length ps))) (λ st. done_local (record { positions = ps; moves = ms; states = states; arrows = arrows; rules = rs; start = st })))

rules_local : (z : Room) (ps : List Position) (ms : List Move) (states : List Bool) (arrows : List Arrow) → Local (read_rules z ps ms states arrows)
rules_local z ps ms states arrows = bind_local (section (codes "rules") 0 5 z.rules rule_line) (read_start ps ms states arrows) (section_local (codes "rules") 0 5 z.rules rule_line) (start_local ps ms states arrows)

arrows_local : (z : Room) (ps : List Position) (ms : List Move) (states : List Bool) → Local (read_arrows z ps ms states)
arrows_local z ps ms states = bind_local (section (codes "arrows") 0 (most_arrows (length states)) z.arrows (arrow_line (length states))) (read_rules z ps ms states) (section_local (codes "arrows") 0 (most_arrows (length states)) z.arrows (arrow_line (length states))) (rules_local z ps ms states)

states_local : (z : Room) (ps : List Position) (ms : List Move) → Local (read_states z ps ms)
states_local z ps ms = bind_local (section (codes "states") 0 64 z.states state_line) (read_arrows z ps ms) (section_local (codes "states") 0 64 z.states state_line) (arrows_local z ps ms)

moves_local : (z : Room) (ps : List Position) → Local (read_moves z ps)
moves_local z ps = bind_local (section (codes "moves") 0 4096 z.moves (move_line ps)) (read_states z ps) (section_local (codes "moves") 0 4096 z.moves (move_line ps)) (states_local z ps)

pub sections_local : (z : Room) → Local (read_sections z)
sections_local z = bind_local (section (codes "positions") 1 4096 z.positions position_line) (read_moves z) (section_local (codes "positions") 1 4096 z.positions position_line) (moves_local z)
