use Rattle.std.proofs.Common.{drop, ap, arith}
use Rattle.sheet.specs.Sections.{room_of}
use Rattle.sheet.proofs.Accepted.{fits}
use Rattle.sheet.proofs.Ending.{nothing_left, something_left}
use Rattle.sheet.proofs.whole.read_whole.Goals as goal

pub returns-then-reader-sheet : goal.returns-then-reader-sheet
returns-then-reader-sheet c =
    let got = c.in_ok-outline.ensures in
    let end = c.read_sections.new.reader in
    rw c.new-then-reader-sheet.ensures (something_left (room_of c.args.room) c.args.sheet.now (omega arith) _ end.line end.at _ (ap (λ s. drop end.at s.now) got.1) got.0 (omega arith))

pub returns : goal.returns
returns c =
    let got = c.in_ok-outline.ensures in
    let end = c.read_sections.new.reader in
    let whole = nothing_left (room_of c.args.room) c.args.sheet.now (omega arith) _ end.line end.at _ (ap (λ s. drop end.at s.now) got.1) got.0 (omega arith) in
    (whole, fits (room_of c.args.room) c.args.sheet.now c.in_ok-outline.outline c.read_sections.new.lists whole got.2)
