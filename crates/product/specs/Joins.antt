-- What moves on a joined board mean on the board below and in the task.
use Rattle.std.specs.Prelude.{◌≡◌, ℕ, ◌+◌, ◌*◌, ◌<◌, Bool, false, ◌&&◌, List, length, take}
use Rattle.board.specs.Table.{Table, row_at}
use Rattle.plays.specs.Paths.{IsPath, endpoint, labels, charges}
use Rattle.plays.specs.Plays.{Play}
use Rattle.task.specs.Dfa.{Dfa, state_after, accepts}
use Rattle.product.specs.Product.{joined_row}

-- after the moves ks from the start the board rests, and the task accepts the labels of all positions held
abbrev pub finished : Table → Dfa → List ℕ → Bool
finished t d ks = (row_at t (endpoint t t.start ks)).rests && accepts d (labels t t.start ks)

-- no front of ks, ks itself left out, is finished
abbrev pub Unfinished : Table → Dfa → List ℕ → Type 0
Unfinished t d ks = (i : ℕ) → i < length ks → finished t d (take i ks) ≡ false

-- what the moves ks do on the board j: the same as on the board t, with the task d read along
pub record Tracks (t : Table) (d : Dfa) (j : Table) (ks : List ℕ) : Type 0 where
  pub place : endpoint j j.start ks ≡ endpoint t t.start ks * d.states + state_after d d.first (labels t t.start ks)
  pub rested : (row_at j (endpoint j j.start ks)).rests ≡ finished t d ks
  pub turned : (row_at j (endpoint j j.start ks)).turn ≡ (row_at t (endpoint t t.start ks)).turn
  pub labelled : labels j j.start ks ≡ labels t t.start ks
  pub charged : charges j j.start ks ≡ charges t t.start ks

-- the board j is the board t joined with the task d
pub record IsJoin (t : Table) (d : Dfa) (j : Table) : Type 0 where
  pub count : length j.rows ≡ length t.rows * d.states
  -- each pair of a position and a state has its row
  pub rows : (p z : ℕ) → p < length t.rows → z < d.states → row_at j (p * d.states + z) ≡ joined_row t d p z
  -- the paths of both boards are the same
  pub paths_below : (ks : List ℕ) → IsPath j j.start ks → IsPath t t.start ks
  pub paths_above : (ks : List ℕ) → IsPath t t.start ks → IsPath j j.start ks
  -- where a path leads and what is met on it
  pub tracks : (ks : List ℕ) → IsPath t t.start ks → Tracks t d j ks
  -- the plays are the paths below of which no shorter front is finished; below, such a path may go on from rest
  pub plays : (ks : List ℕ) → Play j j.start ks → IsPath t t.start ks × Unfinished t d ks
  pub all_plays : (ks : List ℕ) → IsPath t t.start ks → Unfinished t d ks → Play j j.start ks
