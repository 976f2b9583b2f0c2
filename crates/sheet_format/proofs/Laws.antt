-- The laws of the format.
use Rattle.std.proofs.Common.{ℕ, ◌≤◌, eqb, leb, List, [], ◌∷◌, ◌++◌, length, sym, refl, subst, arith, length-append}
use Rattle.std.proofs.lemmas.Bool.{cond_both, eqb-true, le-leb, leb-true}
use Rattle.std.specs.List.{AllByRecursion}
use Rattle.refusal.specs.declared.Refusal.TheVariants.{TooLong}
use Rattle.entries.specs.declared.Arrow.{Arrow}
use Rattle.sheet_format.proofs.Counts.{sorted_after, after_sorted}
use Rattle.sheet_format.proofs.Ends.{end_forth, end_back, end_stays}
use Rattle.sheet_format.proofs.Parts.{most_arrows_le}
use Rattle.sheet_format.proofs.Results.{cond_ok}
use Rattle.sheet_format.proofs.SheetLocal.{sections_local}
use Rattle.sheet_format.proofs.Whole.{GoodSheet, sections_reads}
use Rattle.sheet_format.specs.Laws.{ReadsBack, OnlySpellings, RefusalStays, FormatLaws}
use Rattle.sheet_format.specs.Read.{most_arrows, read_sections, read_whole}
use Rattle.sheet_format.specs.Reading.{fault}
use Rattle.sheet_format.specs.Sheets.{Sheet, Room}
use Rattle.sheet_format.specs.Spelling.{spelled}
use Rattle.sheet_format.specs.WellFormed.{ArrowFits, WellFormed}

-- without states there is no arrow
arrows_most : (m : ℕ) (xs : List Arrow) → length xs ≤ 256 → AllByRecursion (ArrowFits m) xs → length xs ≤ most_arrows m
arrows_most m [] h fits = omega arith
arrows_most m (x ∷ xs) h fits = cond_both (eqb m 0) 0 256 (λ n. length (x ∷ xs) ≤ n) (λ e. omega (arith, eqb-true m 0 e, fits.0.from)) (λ e. h)

all_units : {A : Type 0} (xs : List A) → AllByRecursion (λ x. Unit {0}) xs
all_units [] = tt
all_units (x ∷ xs) = (tt, all_units xs)

-- well-formed sheets are those of which every section is good
good_sheet : (z : Room) (s : Sheet) → WellFormed z s → GoodSheet z s
good_sheet z s w = (
  (w.positions, w.labels),
  (
    (w.moves, after_sorted s.positions [] s.moves w.each_move w.sorted (λ p. omega (arith, w.few p))),
    (
      (w.states, all_units s.states),
      (
        (record { least = w.arrows.least; most = arrows_most (length s.states) s.arrows w.arrows.most w.each_arrow; fits = w.arrows.fits }, w.each_arrow),
        (
          (w.rules, w.each_rule),
          (
            omega arith,
            (record { position = w.start; bruise = w.bruise; energy = w.energy }, refl),
          ),
        ),
      ),
    ),
  ),
)

well_formed : (z : Room) (s : Sheet) → GoodSheet z s → length (spelled s) ≤ 65536 → WellFormed z s
well_formed z s g l =
    let ms = sorted_after s.positions [] s.moves g.1.0.1 in
    let arrows = g.1.1.1.0 in
    let rules = g.1.1.1.1.0 in
    let start = g.1.1.1.1.1.1.0 in
    record {
      positions = g.0.0;
      labels = g.0.1;
      moves = g.1.0.0;
      each_move = ms.each;
      sorted = ms.rising;
      few = λ p. omega (arith, ms.few p (omega arith));
      states = g.1.1.0.0;
      arrows = record { least = arrows.0.least; most = omega (arith, arrows.0.most, most_arrows_le (length s.states)); fits = arrows.0.fits };
      each_arrow = arrows.1;
      rules = rules.0;
      each_rule = rules.1;
      start = start.position;
      bruise = start.bruise;
      energy = start.energy;
      size = l;
    }

pub reads_back : ReadsBack
reads_back z s w = rw (le-leb (length (spelled s)) 65536 w.size) (end_forth (read_sections z) spelled (GoodSheet z) (sections_reads z) s (good_sheet z s w))

pub only_spellings : OnlySpellings
only_spellings z bs s e =
    let a = cond_ok (leb (length bs) 65536) (read_whole z bs) (fault TooLong 0 0) s e in
    let b = end_back (read_sections z) spelled (GoodSheet z) (sections_reads z) bs s a.1 in
    (well_formed z s b.0 (subst (λ l. length l ≤ 65536) (sym b.1) (leb-true (length bs) 65536 a.0)), b.1)

pub refusal_stays : RefusalStays
refusal_stays z bs rest f e n l =
    let short : length bs ≤ 65536 = omega (arith, length-append bs rest) in
    rw (le-leb (length (bs ++ rest)) 65536 l) (end_stays (read_sections z) (sections_local z) bs rest f (rw (le-leb (length bs) 65536 short) at e) n)

pub format_laws : FormatLaws
format_laws = record { reads_back = reads_back; only_spellings = only_spellings; refusal_stays = refusal_stays }
