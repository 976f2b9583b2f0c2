-- Paths and plays of the joined table, from a pair of a position and a state.
use Rattle.std.proofs.Common.{◌≡◌, ℕ, zero, suc, ◌+◌, ◌*◌, ◌<◌, Bool, false, ◌&&◌, List, [], ◌∷◌, length, take, sym, refl, ap, ◌∙◌, subst, ap₂, le_of_suc-le-suc, not-suc-le-zero, arith}
use Rattle.std.proofs.lemmas.List.{length-map}
use Rattle.board.specs.Table.{Table, row_at, move_at}
use Rattle.board.specs.Ranges.{InRange}
use Rattle.plays.specs.Paths.{move_of, IsPath, endpoint, labels, charges}
use Rattle.plays.specs.Plays.{Play}
use Rattle.task.specs.Dfa.{Dfa, DfaInRange, state_after}
use Rattle.product.specs.Product.{joined_move, joined_row, joined}
use Rattle.product.specs.Joins.{Tracks, IsJoin}
use Rattle.product.proofs.Rows.{joined_count, row_pair, move_pair}

-- from p, with state z before its label is read: the board rests at the end and the state there accepts
abbrev finished_from : Table → Dfa → ℕ → ℕ → List ℕ → Bool
finished_from t d p z ks = (row_at t (endpoint t p ks)).rests && d.accepting (state_after d z (labels t p ks))

module _ (t : Table) (d : Dfa) (fair : InRange t) (sound : DfaInRange d) where
  lands : (p k : ℕ) → p < length t.rows → k < length (row_at t p).moves → (move_of t p k).target < length t.rows
  lands p k hp hk = ((fair.each_row p hp).each_move k hk).lands

  endpoint_below : (ks : List ℕ) (p : ℕ) → p < length t.rows → IsPath t p ks → endpoint t p ks < length t.rows
  endpoint_below [] p hp path = hp
  endpoint_below (k ∷ ks) p hp path = endpoint_below ks (move_of t p k).target (lands p k hp path.0) path.1

  state_below : (list : List ℕ) (z : ℕ) → z < d.states → state_after d z list < d.states
  state_below [] z hz = hz
  state_below (label ∷ rest) z hz = state_below rest (d.next z label) (sound.stays z label hz)

  degree_pair : (p z : ℕ) → p < length t.rows → z < d.states → length (row_at (joined t d) (p * d.states + z)).moves ≡ length (row_at t p).moves
  degree_pair p z hp hz = ap (λ r. length r.moves) (row_pair t d p z hp hz) ∙ length-map (row_at t p).moves (joined_move t d z)

  move_is : (p z k : ℕ) → p < length t.rows → z < d.states → k < length (row_at t p).moves
      → move_of (joined t d) (p * d.states + z) k ≡ joined_move t d z (move_of t p k)
  move_is p z k hp hz hk = ap (λ r. move_at r k) (row_pair t d p z hp hz) ∙ move_pair t d p z k hk

  target_is : (p z k : ℕ) → p < length t.rows → z < d.states → k < length (row_at t p).moves
      → (move_of (joined t d) (p * d.states + z) k).target ≡ (move_of t p k).target * d.states + d.next z (row_at t (move_of t p k).target).label
  target_is p z k hp hz hk = ap (λ s. s.target) (move_is p z k hp hz hk)

  reads_on : (p z : ℕ) → z < d.states → d.next z (row_at t p).label < d.states
  reads_on p z hz = sound.stays z (row_at t p).label hz

  down : (ks : List ℕ) (p z : ℕ) → p < length t.rows → z < d.states → IsPath (joined t d) (p * d.states + z) ks → IsPath t p ks
  down [] p z hp hz path = tt
  down (k ∷ ks) p z hp hz path =
      let hk : k < length (row_at t p).moves = subst (λ n. k < n) (degree_pair p z hp hz) path.0 in (
        hk,
        down ks (move_of t p k).target (d.next z (row_at t (move_of t p k).target).label) (lands p k hp hk) (reads_on (move_of t p k).target z hz)
            (subst (λ q. IsPath (joined t d) q ks) (target_is p z k hp hz hk) path.1),
      )

  up : (ks : List ℕ) (p z : ℕ) → p < length t.rows → z < d.states → IsPath t p ks → IsPath (joined t d) (p * d.states + z) ks
  up [] p z hp hz path = tt
  up (k ∷ ks) p z hp hz path = (
    subst (λ n. k < n) (sym (degree_pair p z hp hz)) path.0,
    subst (λ q. IsPath (joined t d) q ks) (sym (target_is p z k hp hz path.0))
        (up ks (move_of t p k).target (d.next z (row_at t (move_of t p k).target).label) (lands p k hp path.0) (reads_on (move_of t p k).target z hz) path.1),
  )

  -- where a path leads: the position below, with the state after all labels
  lead : (ks : List ℕ) (p z : ℕ) → p < length t.rows → z < d.states → IsPath t p ks
      → endpoint (joined t d) (p * d.states + d.next z (row_at t p).label) ks ≡ endpoint t p ks * d.states + state_after d z (labels t p ks)
  lead [] p z hp hz path = refl
  lead (k ∷ ks) p z hp hz path =
      ap (λ q. endpoint (joined t d) q ks) (target_is p (d.next z (row_at t p).label) k hp (reads_on p z hz) path.0)
      ∙ lead ks (move_of t p k).target (d.next z (row_at t p).label) (lands p k hp path.0) (reads_on p z hz) path.1

  end_row : (ks : List ℕ) (p z : ℕ) → p < length t.rows → z < d.states → IsPath t p ks
      → row_at (joined t d) (endpoint (joined t d) (p * d.states + d.next z (row_at t p).label) ks)
      ≡ joined_row t d (endpoint t p ks) (state_after d z (labels t p ks))
  end_row ks p z hp hz path =
      ap (row_at (joined t d)) (lead ks p z hp hz path)
      ∙ row_pair t d (endpoint t p ks) (state_after d z (labels t p ks)) (endpoint_below ks p hp path) (state_below (labels t p ks) z hz)

  same_labels : (ks : List ℕ) (p z : ℕ) → p < length t.rows → z < d.states → IsPath t p ks → labels (joined t d) (p * d.states + z) ks ≡ labels t p ks
  same_labels [] p z hp hz path = ap (λ r. r.label ∷ []) (row_pair t d p z hp hz)
  same_labels (k ∷ ks) p z hp hz path =
      ap₂ ◌∷◌ (ap (λ r. r.label) (row_pair t d p z hp hz))
      (ap (λ q. labels (joined t d) q ks) (target_is p z k hp hz path.0)
      ∙ same_labels ks (move_of t p k).target (d.next z (row_at t (move_of t p k).target).label) (lands p k hp path.0) (reads_on (move_of t p k).target z hz) path.1)

  same_charges : (ks : List ℕ) (p z : ℕ) → p < length t.rows → z < d.states → IsPath t p ks → charges (joined t d) (p * d.states + z) ks ≡ charges t p ks
  same_charges [] p z hp hz path = refl
  same_charges (k ∷ ks) p z hp hz path =
      ap₂ ◌∷◌ (ap (λ s. (s.bruise, s.energy)) (move_is p z k hp hz path.0))
      (ap (λ q. charges (joined t d) q ks) (target_is p z k hp hz path.0)
      ∙ same_charges ks (move_of t p k).target (d.next z (row_at t (move_of t p k).target).label) (lands p k hp path.0) (reads_on (move_of t p k).target z hz) path.1)

  play_path : (ks : List ℕ) (q : ℕ) → Play (joined t d) q ks → IsPath (joined t d) q ks
  play_path [] q play = tt
  play_path (k ∷ ks) q play = (play.0.there, play_path ks (move_of (joined t d) q k).target play.1)

  -- a play of the joined table is unfinished before its end
  unfinished : (ks : List ℕ) (p z : ℕ) → p < length t.rows → z < d.states → IsPath t p ks
      → Play (joined t d) (p * d.states + d.next z (row_at t p).label) ks → (i : ℕ) → i < length ks → finished_from t d p z (take i ks) ≡ false
  unfinished [] p z hp hz path play i h = absurd (not-suc-le-zero h)
  unfinished (k ∷ ks) p z hp hz path play zero h =
      sym (ap (λ r. r.rests) (row_pair t d p (d.next z (row_at t p).label) hp (reads_on p z hz))) ∙ play.0.awake
  unfinished (k ∷ ks) p z hp hz path play (suc i) h =
      unfinished ks (move_of t p k).target (d.next z (row_at t p).label) (lands p k hp path.0) (reads_on p z hz) path.1
      (subst (λ q. Play (joined t d) q ks) (target_is p (d.next z (row_at t p).label) k hp (reads_on p z hz) path.0) play.1)
      i (le_of_suc-le-suc h)

  -- a path below that is unfinished before its end is a play of the joined table
  plays_on : (ks : List ℕ) (p z : ℕ) → p < length t.rows → z < d.states → IsPath t p ks
      → ((i : ℕ) → i < length ks → finished_from t d p z (take i ks) ≡ false) → Play (joined t d) (p * d.states + d.next z (row_at t p).label) ks
  plays_on [] p z hp hz path open-ended = tt
  plays_on (k ∷ ks) p z hp hz path open-ended = (
    record {
      awake = ap (λ r. r.rests) (row_pair t d p (d.next z (row_at t p).label) hp (reads_on p z hz)) ∙ open-ended 0 (omega arith);
      there = subst (λ n. k < n) (sym (degree_pair p (d.next z (row_at t p).label) hp (reads_on p z hz))) path.0;
    },
    subst (λ q. Play (joined t d) q ks) (sym (target_is p (d.next z (row_at t p).label) k hp (reads_on p z hz) path.0))
        (plays_on ks (move_of t p k).target (d.next z (row_at t p).label) (lands p k hp path.0) (reads_on p z hz) path.1
        (λ i h. open-ended (suc i) (omega arith))),
  )

  tracks : (ks : List ℕ) → IsPath t t.start ks → Tracks t d (joined t d) ks
  tracks ks path = record {
    place = lead ks t.start d.first fair.starts sound.starts path;
    rested = ap (λ r. r.rests) (end_row ks t.start d.first fair.starts sound.starts path);
    turned = ap (λ r. r.turn) (end_row ks t.start d.first fair.starts sound.starts path);
    labelled = same_labels ks t.start (d.next d.first (row_at t t.start).label) fair.starts (reads_on t.start d.first sound.starts) path;
    charged = same_charges ks t.start (d.next d.first (row_at t t.start).label) fair.starts (reads_on t.start d.first sound.starts) path;
  }

  below : (ks : List ℕ) → IsPath (joined t d) (joined t d).start ks → IsPath t t.start ks
  below ks path = down ks t.start (d.next d.first (row_at t t.start).label) fair.starts (reads_on t.start d.first sound.starts) path

  -- the joined table is what it is called, of every board and every task
  pub is_join : IsJoin t d (joined t d)
  is_join = record {
    count = joined_count t d;
    rows = row_pair t d;
    paths_below = below;
    paths_above = λ ks path. up ks t.start (d.next d.first (row_at t t.start).label) fair.starts (reads_on t.start d.first sound.starts) path;
    tracks = tracks;
    plays = λ ks play. (let path = below ks (play_path ks (joined t d).start play) in
        (path, unfinished ks t.start d.first fair.starts sound.starts path play));
    all_plays = λ ks path open-ended. plays_on ks t.start d.first fair.starts sound.starts path open-ended;
  }
