-- Reading a sheet from each of its sections on.
use Rattle.std.proofs.Common.{Bool, List, length, codes}
use Rattle.entries.specs.declared.Arrow.{Arrow}
use Rattle.entries.specs.declared.Move.{Move}
use Rattle.entries.specs.declared.Position.{Position}
use Rattle.entries.specs.declared.Rule.{Rule}
use Rattle.sheet_format.specs.Lines.{move_line, state_line, arrow_line, rule_line, start_line}
use Rattle.sheet_format.specs.Read.{most_arrows}
use Rattle.sheet_format.specs.Reading.{Reading, done, ◌>>=◌, next_line, header, section}
use Rattle.sheet_format.specs.Sheets.{Sheet, Room}

abbrev pub read_start : List Position → List Move → List Bool → List Arrow → List Rule → Reading Sheet
read_start ps ms states arrows rs = next_line (header (codes "start") 1 1 1) >>= (λ n. next_line (start_line (length ps)) >>= (λ st. done (record { positions = ps; moves = ms; states = states; arrows = arrows; rules = rs; start = st })))

abbrev pub read_rules : Room → List Position → List Move → List Bool → List Arrow → Reading Sheet
read_rules z ps ms states arrows = section (codes "rules") 0 5 z.rules rule_line >>= read_start ps ms states arrows

abbrev pub read_arrows : Room → List Position → List Move → List Bool → Reading Sheet
read_arrows z ps ms states = section (codes "arrows") 0 (most_arrows (length states)) z.arrows (arrow_line (length states)) >>= read_rules z ps ms states

abbrev pub read_states : Room → List Position → List Move → Reading Sheet
read_states z ps ms = section (codes "states") 0 64 z.states state_line >>= read_arrows z ps ms

abbrev pub read_moves : Room → List Position → Reading Sheet
read_moves z ps = section (codes "moves") 0 4096 z.moves (move_line ps) >>= read_states z ps
