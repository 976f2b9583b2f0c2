-- The board of a sheet with its tasks joined.
use Rattle.sheet_format.proofs.Rows.{length_rows}
use Rattle.std.proofs.Common.{◌≡◌, ℕ, ◌*◌, ◌^◌, ◌≤◌, max, true, false, cond, ◌&&◌, leb, List, length, Ok, Err, Decides, Result, sym, ap, ◌∙◌, subst}
use Rattle.std.proofs.lemmas.Bool.{le-leb}
use Rattle.std.proofs.lemmas.Bool.Decides.{Decides-at, Decides-and, Decides-like}
use Rattle.std.specs.List.{AllByRecursion}
use Rattle.automaton.specs.Arrows.{automaton_dfa}
use Rattle.board.specs.Table.{Table, row_at}
use Rattle.flat.specs.Meaning.{flat_meaning, flat_ranges}
use Rattle.flat.specs.declared.holder.FlatBoard.{FlatBoard}
use Rattle.joined.specs.Meant.{join_size, meant}
use Rattle.plays.specs.Paths.{endpoint, labels}
use Rattle.product.specs.Product.{joined}
use Rattle.refusal.specs.declared.Refusal.TheVariants.{JoinTooLarge}
use Rattle.rules.proofs.Each.{rules_are}
use Rattle.rules.specs.Digits.{rules_dfa}
use Rattle.rules.specs.Holds.{Holds}
use Rattle.sheet_format.specs.Boards.{sheet_board}
use Rattle.sheet_format.specs.Fields.{on_ok}
use Rattle.sheet_format.specs.Read.{read_sheet}
use Rattle.sheet_format.specs.Reading.{fault}
use Rattle.sheet_format.specs.Sheets.{Sheet}
use Rattle.sheet_format.specs.declared.Fault.{Fault}
use Rattle.task.specs.Dfa.{Dfa, accepts}
use Rattle.twice.specs.Twice.{RoomForBoth}
use Rattle.load.specs.Boards.{task_board_size, largest_room, load_sheet, Finished, FinishesTask}

-- a join that fits is the whole join
meant_whole : (t : Table) (d : Dfa) → join_size t d ≤ 4096 → meant t d ≡ joined t d
meant_whole t d h = ap (λ b. cond b (joined t d) t) (le-leb (join_size t d) 4096 h)

pub meant_both : (t : Table) (a b : Dfa) → RoomForBoth t a b → meant (meant t a) b ≡ joined (joined t a) b
meant_both t a b h = meant_whole (meant t a) b h.second_join ∙ ap (λ u. joined u b) (meant_whole t a h.first_join)

abbrev both_sizes : Sheet → ℕ
both_sizes s = length (sheet_board s).rows * (automaton_dfa s.states s.arrows).states * (rules_dfa s.rules).states

pub size_is : (s : Sheet) → both_sizes s ≡ task_board_size s
size_is s = ap (λ n. n * max 1 (length s.states) * 3 ^ length s.rules) (length_rows s.moves 0 s.positions)

pub size_fits : (s : Sheet) (f : FlatBoard) → RoomForBoth (sheet_board s) (automaton_dfa s.states s.arrows) (rules_dfa s.rules)
    → flat_meaning f ≡ meant (meant (sheet_board s) (automaton_dfa s.states s.arrows)) (rules_dfa s.rules) → task_board_size s ≤ 4096
size_fits s f h e =
    let few = (flat_ranges f).few in
    let same : length (flat_meaning f).rows ≡ task_board_size s = ap (λ t. length t.rows) e ∙ h.double_join.count ∙ size_is s in
    subst (λ n. n ≤ 4096) same few

abbrev found : Sheet → Result Sheet Fault
found s = Ok s

-- the sheet that was read is loaded where its board fits
pub loaded : (bs : List ℕ) (s : Sheet) → read_sheet largest_room bs ≡ Ok s → task_board_size s ≤ 4096 → load_sheet bs ≡ Ok s
loaded bs s e h =
    ap (λ r. on_ok r (λ x. cond (leb (task_board_size x) 4096) (Ok x) (Err (fault JoinTooLarge 0 0)))) e
    ∙ ap (λ b. cond b (found s) (Err (fault JoinTooLarge 0 0))) (le-leb (task_board_size s) 4096 h)

pub not_loaded : (bs : List ℕ) (s : Sheet) (b : leb (task_board_size s) 4096 ≡ false) → read_sheet largest_room bs ≡ Ok s → load_sheet bs ≡ Err (fault JoinTooLarge 0 0)
not_loaded bs s b e =
    ap (λ r. on_ok r (λ x. cond (leb (task_board_size x) 4096) (Ok x) (Err (fault JoinTooLarge 0 0)))) e
    ∙ ap (λ b. cond b (found s) (Err (fault JoinTooLarge 0 0))) b

-- the two tests of a finished task, and what they say
finished_is : (s : Sheet) (ks : List ℕ)
    → Decides (((row_at (sheet_board s) (endpoint (sheet_board s) (sheet_board s).start ks)).rests && accepts (automaton_dfa s.states s.arrows) (labels (sheet_board s) (sheet_board s).start ks)) && accepts (rules_dfa s.rules) (labels (sheet_board s) (sheet_board s).start ks)) (Finished s ks)
finished_is s ks =
    let t = sheet_board s in
    let rests = (row_at t (endpoint t t.start ks)).rests in
    let seen = labels t t.start ks in
    let a = accepts (automaton_dfa s.states s.arrows) seen in
    let b = accepts (rules_dfa s.rules) seen in
    let P : Type 0 = rests ≡ true in
    let Q : Type 0 = a ≡ true in
    let R : Type 0 = AllByRecursion (λ r. Holds r seen) s.rules in
    let all : Decides ((rests && a) && b) ((P × Q) × R) = Decides-and (rests && a) b (Decides-and rests a ((λ h. h), (λ h. h)) ((λ h. h), (λ h. h))) (rules_are s.rules seen) in
    Decides-like ((rests && a) && b) (λ x. record { rests = x.0.0; accepted = x.0.1; kept = x.1 }) (λ x. ((x.rests, x.accepted), x.kept)) all

pub finishes_task : (s : Sheet) (j : Table) → RoomForBoth (sheet_board s) (automaton_dfa s.states s.arrows) (rules_dfa s.rules)
    → j ≡ meant (meant (sheet_board s) (automaton_dfa s.states s.arrows)) (rules_dfa s.rules) → FinishesTask s j
finishes_task s j h e =
    let double = h.double_join in
    subst (FinishesTask s) (sym e) (record {
      paths_below = double.paths_below;
      paths_above = double.paths_above;
      finishes = λ ks path. Decides-at _ _ (double.tracks ks path).rested (finished_is s ks);
    })
