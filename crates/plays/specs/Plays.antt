-- Plays: paths on which no move is made from rest.
use Rattle.std.specs.Prelude.{false, List, [], ◌∷◌, ◌≡◌, ℕ, ◌<◌, length}
use Rattle.board.specs.Table.{Table, row_at}
use Rattle.plays.specs.Paths.{move_of}

-- move k may be made at p
pub record Allowed (t : Table) (p k : ℕ) : Type 0 where
  pub awake : (row_at t p).rests ≡ false
  pub there : k < length (row_at t p).moves

-- a play from p: each move is there where those before it lead, none from rest
abbrev pub Play : Table → ℕ → List ℕ → Type 0
Play t p [] = Unit {0}
Play t p (k ∷ ks) = Allowed t p k × Play t (move_of t p k).target ks
