-- What is known once a sheet is accepted, and once it is refused.
use Rattle.std.proofs.Common.{◌≡◌, ℕ, List, Ok, Err, sym, ap, ◌∙◌, arith}
use Rattle.std.proofs.lemmas.List.{length-take-le}
use Rattle.sheet_format.specs.declared.Fault.{Fault}
use Rattle.sheet_format.specs.Read.{read_sheet}
use Rattle.sheet_format.specs.Sheets.{Room}
use Rattle.sheet_format.specs.WellFormed.{WellFormed}
use Rattle.sheet_format.proofs.Laws.{reads_back, only_spellings}
use Rattle.sheet_format.proofs.Results.{err_ok}
use Rattle.sheet.specs.declared.parts.Lists.{Lists}
use Rattle.sheet.specs.declared.parts.Outline.{Outline}
use Rattle.sheet.specs.Filled.{outline_of, Fits}
use Rattle.sheet.specs.Sections.{sheet_of, Within}
use Rattle.sheet.specs.Spells.{Spells}

-- refused bytes spell no sheet
pub spells_none : (z : Room) (bs : List ℕ) (f : Fault) → read_sheet z bs ≡ Err f → Spells z bs (Err f)
spells_none z bs f e s good is = err_ok f s (sym e ∙ ap (read_sheet z) (sym is) ∙ reads_back z s good)

module _ (z : Room) (bs : List ℕ) (o : Outline) (ls : Lists) (got : read_sheet z bs ≡ Ok (sheet_of o ls)) (in' : Within o ls) where
  pub well_formed : WellFormed z (sheet_of o ls)
  well_formed = (only_spellings z bs (sheet_of o ls) got).0

  pub same_outline : outline_of (sheet_of o ls) ≡ o
  same_outline = λ i. record {
    positions = length-take-le o.positions ls.positions in'.positions i;
    moves = length-take-le o.moves ls.moves in'.moves i;
    states = length-take-le o.states ls.states in'.states i;
    arrows = length-take-le o.arrows ls.arrows in'.arrows i;
    rules = length-take-le o.rules ls.rules in'.rules i;
    start = o.start;
  }

  pub fits : Fits z o ls
  fits =
      let w = well_formed in
      let p = length-take-le o.positions ls.positions in'.positions in
      let m = length-take-le o.moves ls.moves in'.moves in
      let s = length-take-le o.states ls.states in'.states in
      let a = length-take-le o.arrows ls.arrows in'.arrows in
      let r = length-take-le o.rules ls.rules in'.rules in
      record {
        within = in';
        positions = (omega arith, omega arith);
        moves = (omega arith, omega arith);
        states = (omega arith, omega arith);
        arrows = (omega arith, omega arith);
        rules = (omega arith, omega arith);
        sorted = w.sorted;
      }

  pub spells_one : Spells z bs (Ok o)
  spells_one =
      (sheet_of o ls, well_formed, (only_spellings z bs (sheet_of o ls) got).1, same_outline)
