use Rattle.std.proofs.Common.{◌≡◌, take, length, Ok, Result, codes, ap, ◌∙◌, rules}
use Rattle.std.proofs.lemmas.List.{length-take-le}
use Rattle.std.proofs.lemmas.Result.{err_from_is_err_and}
use Rattle.entries.specs.declared.Start.{Start}
use Rattle.sheet_format.specs.declared.Fault.{Fault}
use Rattle.sheet_format.specs.Fields.{on_ok}
use Rattle.sheet_format.specs.Lines.{move_line, arrow_line, start_line}
use Rattle.sheet_format.specs.Read.{most_arrows, read_sections}
use Rattle.sheet_format.specs.Reading.{Left, next_line, header, section}
use Rattle.sheet.specs.Sections.{room_of}
use Rattle.sheet.specs.Takes.{left_of}
use Rattle.sheet.proofs.Steps.{sections_read}
use Rattle.sheet.proofs.sections.read_sections.Goals as goal
use Rattle.sheet.proofs.sections.read_sections.Goals.{In_ok-read_line}

-- all before the start line was read, and that line gave r
before_start : (c : In_ok-read_line) (r : Result (Start × Left) Fault) → next_line (start_line c.in_ok-n.n) (left_of c.read_line.new.self) ≡ r → read_sections (room_of c.args.room) (left_of c.args.reader.now) ≡ on_ok r (λ y. Ok (record { positions = take c.in_ok-n.n c.read_section.new.table; moves = take c.in_ok-m.m c.read_section-2.new.table; states = take c.in_ok-s.s c.read_section-3.new.table; arrows = take c.in_ok-a.a c.read_section-4.new.table; rules = take c.in_ok-r.r c.read_section-5.new.table; start = y.0 }, y.1))
before_start c r e =
    let ps = take c.in_ok-n.n c.read_section.new.table in
    let ss = take c.in_ok-s.s c.read_section-3.new.table in
    let m : section (codes "moves") 0 4096 c.args.room.moves (move_line ps) (left_of c.read_section.new.self) ≡ Ok (take c.in_ok-m.m c.read_section-2.new.table, left_of c.read_section-2.new.self) = search rules in
    let a : section (codes "arrows") 0 (most_arrows (length ss)) c.args.room.arrows (arrow_line (length ss)) (left_of c.read_section-3.new.self) ≡ Ok (take c.in_ok-a.a c.read_section-4.new.table, left_of c.read_section-4.new.self) = rw (length-take-le c.in_ok-s.s c.read_section-3.new.table c.in_ok-s.ensures.2, ← c.most_arrows-most.ensures) c.in_ok-a.ensures.0 in
    let h = c.in_ok-read_line.ensures (header (codes "start") 1 1 1) (λ line r k. search rules) in
    sections_read (room_of c.args.room) (left_of c.args.reader.now) (left_of c.read_section.new.self) (left_of c.read_section-2.new.self) (left_of c.read_section-3.new.self) (left_of c.read_section-4.new.self) (left_of c.read_section-5.new.self) (left_of c.read_line.new.self) ps (take c.in_ok-m.m c.read_section-2.new.table) ss (take c.in_ok-a.a c.read_section-4.new.table) (take c.in_ok-r.r c.read_section-5.new.table) c.in_ok-read_line.field-0 r c.in_ok-n.ensures.0 m c.in_ok-s.ensures.0 a c.in_ok-r.ensures.0 h.0 (ap (λ n. next_line (start_line n) (left_of c.read_line.new.self)) (length-take-le c.in_ok-n.n c.read_section.new.table c.in_ok-n.ensures.2) ∙ e)

pub returns-in_err-start : goal.returns-in_err-start
returns-in_err-start c =
    let p = err_from_is_err_and c.from_residual-in_err-start.result c.from_residual-in_err-start.ensures.1 in
    rw (p.1, p.2) (before_start (goal.at.returns-in_err-start c).In_ok-read_line _ (c.in_err-start.ensures (start_line c.in_ok-n.n) (λ line r k. search rules)))

pub returns : goal.returns
returns c =
    let h = c.in_ok-read_line.ensures (header (codes "start") 1 1 1) (λ line r k. search rules) in
    let e = c.in_ok-start.ensures (start_line c.in_ok-n.n) (λ line r k. search rules) in (
      before_start (goal.at.returns c).In_ok-read_line _ e.0,
      e.1 ∙ h.1 ∙ c.in_ok-r.ensures.1 ∙ c.in_ok-a.ensures.1 ∙ c.in_ok-s.ensures.1 ∙ c.in_ok-m.ensures.1 ∙ c.in_ok-n.ensures.1,
      record {
        positions = c.in_ok-n.ensures.2;
        moves = c.in_ok-m.ensures.2;
        states = c.in_ok-s.ensures.2;
        arrows = c.in_ok-a.ensures.2;
        rules = c.in_ok-r.ensures.2;
      },
    )
