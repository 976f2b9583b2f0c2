-- Where the last line of a sheet ends.
use Rattle.std.proofs.Common.{◌≡◌, ℕ, ◌<◌, ◌≤◌, leb, List, length, drop, Ok, Err, ap, ◌∙◌}
use Rattle.std.proofs.lemmas.List.{drop_all, drop_more}
use Rattle.std.proofs.lemmas.Bool.{cond-true, le-leb}
use Rattle.refusal.specs.declared.Refusal.TheVariants.{PastTheEnd, TooLong}
use Rattle.sheet_format.specs.Fields.{on_ok}
use Rattle.sheet_format.specs.Read.{at_end, read_sections, read_whole, read_sheet}
use Rattle.sheet_format.specs.Reading.{left, fault}
use Rattle.sheet_format.specs.Sheets.{Sheet, Room}

module _ (z : Room) (bs : List ℕ) (short : length bs ≤ 65536) (s : Sheet) (line at : ℕ) (rest : List ℕ) (same : rest ≡ drop at bs) (taken : read_sections z (left 1 bs) ≡ Ok (s, left line rest)) where
  whole : read_sheet z bs ≡ at_end s line (drop at bs)
  whole =
      cond-true (leb (length bs) 65536) (read_whole z bs) (Err (fault TooLong 0 0)) (le-leb (length bs) 65536 short) ∙ ap (λ r. on_ok r (λ x. at_end x.0 x.1.line x.1.bytes)) taken ∙ ap (at_end s line) same

  pub nothing_left : length bs ≤ at → read_sheet z bs ≡ Ok s
  nothing_left past = whole ∙ ap (at_end s line) (drop_all at bs past)

  pub something_left : at < length bs → read_sheet z bs ≡ Err (fault PastTheEnd line 0)
  something_left more = whole ∙ ap (at_end s line) (drop_more bs at 0 more)
