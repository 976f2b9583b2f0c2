-- Two joins, one over the other.
use Rattle.std.proofs.Common.{◌≡◌, ℕ, zero, suc, ◌+◌, ◌*◌, ◌≤◌, ◌&&◌, List, [], ◌∷◌, length, take, sym, ap, ◌∙◌, subst, ap₂}
use Rattle.board.specs.Table.{Table}
use Rattle.board.specs.Ranges.{InRange}
use Rattle.plays.specs.Paths.{move_of, IsPath}
use Rattle.task.specs.Dfa.{Dfa, DfaInRange, state_after, accepts}
use Rattle.product.specs.Joins.{finished, Tracks, IsJoin}
use Rattle.product.specs.Product.{joined}
use Rattle.product.proofs.Moves.{is_join}
use Rattle.product.proofs.Rows.{joined_count, joined_in_range}
use Rattle.joined.specs.Meant.{join_size, meant}
use Rattle.joined.proofs.Wide.{whole}
use Rattle.twice.specs.Twice.{finished_both, TracksBoth, IsDoubleJoin}

path_take : (t : Table) (ks : List ℕ) (p i : ℕ) → IsPath t p ks → IsPath t p (take i ks)
path_take t [] p zero path = tt
path_take t [] p (suc i) path = tt
path_take t (k ∷ ks) p zero path = tt
path_take t (k ∷ ks) p (suc i) path = (path.0, path_take t ks (move_of t p k).target i path.1)

module _ (t : Table) (a b : Dfa) (j k : Table) (one : IsJoin t a j) (two : IsJoin j b k) where
  finished_same : (ks : List ℕ) → IsPath t t.start ks → finished j b ks ≡ finished_both t a b ks
  finished_same ks path = ap₂ (λ x list. x && accepts b list) (one.tracks ks path).rested (one.tracks ks path).labelled

  tracks_both : (ks : List ℕ) → IsPath t t.start ks → TracksBoth t a b k ks
  tracks_both ks path =
      let low : Tracks t a j ks = one.tracks ks path in
      let high : Tracks j b k ks = two.tracks ks (one.paths_above ks path) in
      record {
        place = high.place ∙ ap₂ (λ e list. e * b.states + state_after b b.first list) low.place low.labelled;
        rested = high.rested ∙ finished_same ks path;
        turned = high.turned ∙ low.turned;
        labelled = high.labelled ∙ low.labelled;
        charged = high.charged ∙ low.charged;
      }

  pub double : IsDoubleJoin t a b k
  double = record {
    count = two.count ∙ ap (λ n. n * b.states) one.count;
    paths_below = λ ks path. one.paths_below ks (two.paths_below ks path);
    paths_above = λ ks path. two.paths_above ks (one.paths_above ks path);
    tracks = tracks_both;
    plays = λ ks play. (let upper = two.plays ks play in
        let path : IsPath t t.start ks = one.paths_below ks upper.0 in
        (path, λ i h. sym (finished_same (take i ks) (path_take t ks t.start i path)) ∙ upper.1 i h));
    all_plays = λ ks path open-ended. two.all_plays ks (one.paths_above ks path)
        (λ i h. finished_same (take i ks) (path_take t ks t.start i path) ∙ open-ended i h);
  }

-- where both joins are within 4,096 positions
pub double_meant : (t : Table) (a b : Dfa) → InRange t → DfaInRange a → DfaInRange b → join_size t a ≤ 4096 → join_size (meant t a) b ≤ 4096
    → IsDoubleJoin t a b (meant (meant t a) b)
double_meant t a b fair ra rb small smaller =
    let one : meant t a ≡ joined t a = whole t a small in
    let less : join_size (joined t a) b ≤ 4096 = subst (λ j. join_size j b ≤ 4096) one smaller in
    let two : meant (meant t a) b ≡ joined (joined t a) b = ap (λ j. meant j b) one ∙ whole (joined t a) b less in
    subst (IsDoubleJoin t a b) (sym two)
    (double t a b (joined t a) (joined (joined t a) b) (is_join t a fair ra) (is_join (joined t a) b (joined_in_range t a fair ra small) rb))

-- the size of both joins
pub size_both : (t : Table) (a b : Dfa) → join_size t a ≤ 4096 → join_size (meant t a) b ≡ length t.rows * a.states * b.states
size_both t a b small = ap (λ j. length j.rows * b.states) (whole t a small) ∙ ap (λ n. n * b.states) (joined_count t a)
