-- The tables after a sheet was read hold the sheet.
use Rattle.sheet.proofs.Spans.{length_entries}
use Rattle.std.proofs.Common.{◌≡◌, ℕ, Bool, List, length, take, drop, Ok, Err, Result, sym, refl, ap, ◌∙◌, subst, arith}
use Rattle.std.proofs.ByRecursion.{All-get_or}
use Rattle.std.proofs.lemmas.List.{take-append-le, take_all}
use Rattle.automaton.specs.Follows.{Whole, absent_arrow}
use Rattle.entries.specs.declared.Arrow.{Arrow}
use Rattle.entries.specs.declared.Move.{Move}
use Rattle.entries.specs.declared.PositionEntry.{PositionEntry}
use Rattle.entries.specs.declared.Rule.{Rule}
use Rattle.sheet.specs.Filled.{outline_of, outlined, filled}
use Rattle.sheet.specs.declared.parts.Outline.{Outline}
use Rattle.sheet_format.specs.Boards.{sheet_entries}
use Rattle.sheet_format.specs.Laws.{OnlySpellings}
use Rattle.sheet_format.specs.Read.{read_sheet}
use Rattle.sheet_format.specs.Sheets.{Sheet, Room}
use Rattle.sheet_format.specs.WellFormed.{WellFormed, ArrowFits}
use Rattle.sheet_format.specs.declared.Fault.{Fault}
use Rattle.load.specs.Boards.{largest_room}

-- an outline was answered: a sheet was read, and this is its outline
pub outlined_ok : (r : Result Sheet Fault) (o : Outline) → Ok o ≡ outlined r → (s : Sheet) × (r ≡ Ok s) × (o ≡ outline_of s)
outlined_ok (Ok s) o e = (s, refl, cc)
outlined_ok (Err f) o e = let z : ◌≡◌ {A = ℕ} 0 1 = cc in absurd (omega arith)

-- a fault was answered: it is the sheet's
pub outlined_err : (r : Result Sheet Fault) (f : Fault) → Err f ≡ outlined r → r ≡ Err f
outlined_err (Ok s) f e = let z : ◌≡◌ {A = ℕ} 0 1 = cc in absurd (omega arith)
outlined_err (Err g) f e = cc

pub refused_read : (z : Room) (bs : List ℕ) (f : Fault) → z ≡ largest_room → Err f ≡ outlined (read_sheet z bs) → read_sheet largest_room bs ≡ Err f
refused_read z bs f room e = outlined_err (read_sheet largest_room bs) f (e ∙ ap (λ y. outlined (read_sheet y bs)) room)

-- the front of a filled table is the sheet's section
pub front_filled : {A : Type 0} (f : Sheet → List A) (r : Result Sheet Fault) (s : Sheet) (old now : List A) (n : ℕ) → r ≡ Ok s → now ≡ filled f r old → n ≡ length (f s) → take n now ≡ f s
front_filled f r s old now n read is many =
    ap (λ k. take k now) many ∙ ap (take (length (f s))) (is ∙ ap (λ x. filled f x old) read) ∙ take-append-le (length (f s)) (f s) (drop (length (f s)) old) (omega arith) ∙ take_all (length (f s)) (f s) (omega arith)

-- the sheet of bytes that were read with this outline into these tables
pub record Taken (bs : List ℕ) (o : Outline) (ps : List PositionEntry) (ms : List Move) (ss : List Bool) (as' : List Arrow) (rs : List Rule) : Type 0 where
  pub sheet : Sheet
  pub reads : read_sheet largest_room bs ≡ Ok sheet
  pub well : WellFormed largest_room sheet
  pub positions : take o.positions ps ≡ sheet_entries sheet
  pub moves : take o.moves ms ≡ sheet.moves
  pub states : take o.states ss ≡ sheet.states
  pub arrows : take o.arrows as' ≡ sheet.arrows
  pub rules : take o.rules rs ≡ sheet.rules
  pub start : o.start ≡ sheet.start

pub taken : (z : Room) (bs : List ℕ) (o : Outline) (ps ops : List PositionEntry) (ms oms : List Move) (ss oss : List Bool) (as' oas : List Arrow) (rs ors : List Rule)
    → z ≡ largest_room → OnlySpellings → Ok o ≡ outlined (read_sheet z bs)
    → ps ≡ filled sheet_entries (read_sheet z bs) ops → ms ≡ filled (λ s. s.moves) (read_sheet z bs) oms → ss ≡ filled (λ s. s.states) (read_sheet z bs) oss
    → as' ≡ filled (λ s. s.arrows) (read_sheet z bs) oas → rs ≡ filled (λ s. s.rules) (read_sheet z bs) ors → Taken bs o ps ms ss as' rs
taken z bs o ps ops ms oms ss oss as' oas rs ors room laws answer hp hm hs ha hr =
    let got = outlined_ok (read_sheet z bs) o answer in
    let s = got.0 in
    let is = got.2 in
    let reads : read_sheet largest_room bs ≡ Ok s = subst (λ y. read_sheet y bs ≡ Ok s) room got.1 in
    record {
      sheet = s;
      reads = reads;
      well = (laws largest_room bs s reads).0;
      positions = front_filled sheet_entries _ s ops ps o.positions got.1 hp (ap (λ x. x.positions) is ∙ sym (length_entries s.moves 0 s.positions));
      moves = front_filled (λ x. x.moves) _ s oms ms o.moves got.1 hm (ap (λ x. x.moves) is);
      states = front_filled (λ x. x.states) _ s oss ss o.states got.1 hs (ap (λ x. x.states) is);
      arrows = front_filled (λ x. x.arrows) _ s oas as' o.arrows got.1 ha (ap (λ x. x.arrows) is);
      rules = front_filled (λ x. x.rules) _ s ors rs o.rules got.1 hr (ap (λ x. x.rules) is);
      start = ap (λ x. x.start) is;
    }

-- a well-formed sheet's automaton is whole
pub sheet_whole : (z : Room) (s : Sheet) → WellFormed z s → Whole s.states s.arrows
sheet_whole z s w = record {
  few = w.states.most;
  inside = λ i h. let fits = All-get_or (ArrowFits (length s.states)) s.arrows i absent_arrow h w.each_arrow in (fits.from, fits.to);
}

-- and so is that of its tables
pub tables_whole : (s : Sheet) → WellFormed largest_room s → (ss : List Bool) (as' : List Arrow) → ss ≡ s.states → as' ≡ s.arrows → Whole ss as'
tables_whole s w ss as' es ea = subst (λ x. Whole ss x) (sym ea) (subst (λ x. Whole x s.arrows) (sym es) (sheet_whole largest_room s w))
