-- A board joined with one task, and the joined board with another.
use Rattle.std.specs.Prelude.{◌≡◌, ℕ, ◌+◌, ◌*◌, ◌<◌, ◌≤◌, Bool, false, ◌&&◌, List, length, take}
use Rattle.board.specs.Table.{Table, row_at}
use Rattle.plays.specs.Paths.{IsPath, endpoint, labels, charges}
use Rattle.plays.specs.Plays.{Play}
use Rattle.task.specs.Dfa.{Dfa, state_after, accepts}
use Rattle.product.specs.Joins.{finished}
use Rattle.joined.specs.Meant.{join_size, meant}

-- after the moves ks from the start the board rests, and both tasks accept the labels of all positions held
abbrev pub finished_both : Table → Dfa → Dfa → List ℕ → Bool
finished_both t a b ks = finished t a ks && accepts b (labels t t.start ks)

-- what the moves ks do on the board j: the same as on the board t, with both tasks read along
pub record TracksBoth (t : Table) (a b : Dfa) (j : Table) (ks : List ℕ) : Type 0 where
  pub place : endpoint j j.start ks
      ≡ (endpoint t t.start ks * a.states + state_after a a.first (labels t t.start ks)) * b.states + state_after b b.first (labels t t.start ks)
  pub rested : (row_at j (endpoint j j.start ks)).rests ≡ finished_both t a b ks
  pub turned : (row_at j (endpoint j j.start ks)).turn ≡ (row_at t (endpoint t t.start ks)).turn
  pub labelled : labels j j.start ks ≡ labels t t.start ks
  pub charged : charges j j.start ks ≡ charges t t.start ks

-- the board j is the board t joined with the task a, and then with the task b
pub record IsDoubleJoin (t : Table) (a b : Dfa) (j : Table) : Type 0 where
  pub count : length j.rows ≡ length t.rows * a.states * b.states
  -- the paths of both boards are the same
  pub paths_below : (ks : List ℕ) → IsPath j j.start ks → IsPath t t.start ks
  pub paths_above : (ks : List ℕ) → IsPath t t.start ks → IsPath j j.start ks
  -- where a path leads and what is met on it
  pub tracks : (ks : List ℕ) → IsPath t t.start ks → TracksBoth t a b j ks
  -- the plays are the paths below of which no shorter front is finished with both tasks
  pub plays : (ks : List ℕ) → Play j j.start ks → IsPath t t.start ks × ((i : ℕ) → i < length ks → finished_both t a b (take i ks) ≡ false)
  pub all_plays : (ks : List ℕ) → IsPath t t.start ks → ((i : ℕ) → i < length ks → finished_both t a b (take i ks) ≡ false) → Play j j.start ks

-- what two joins mean is within 4,096 positions each, and is the double join
pub record RoomForBoth (t : Table) (a b : Dfa) : Type 0 where
  pub first_join : join_size t a ≤ 4096
  pub second_join : join_size (meant t a) b ≤ 4096
  pub double_join : IsDoubleJoin t a b (meant (meant t a) b)
