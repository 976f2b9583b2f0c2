-- Lists of moves on a board: where they lead, and what is met on the way.
use Rattle.std.specs.Prelude.{List, [], ◌∷◌, map, ℕ, ◌<◌, length}
use Rattle.board.specs.declared.parts.Step.{Step}
use Rattle.board.specs.Table.{Table, row_at, move_at}

-- move k of position p
abbrev pub move_of : Table → ℕ → ℕ → Step
move_of t p k = move_at (row_at t p) k

-- a path from p: each move is there where those before it lead. Rest is not asked
abbrev pub IsPath : Table → ℕ → List ℕ → Type 0
IsPath t p [] = Unit {0}
IsPath t p (k ∷ ks) = (k < length (row_at t p).moves) × IsPath t (move_of t p k).target ks

-- where a path from p leads
abbrev pub endpoint : Table → ℕ → List ℕ → ℕ
endpoint t p [] = p
endpoint t p (k ∷ ks) = endpoint t (move_of t p k).target ks

-- the positions held: p, then each move's target
abbrev pub held : Table → ℕ → List ℕ → List ℕ
held t p [] = p ∷ []
held t p (k ∷ ks) = p ∷ held t (move_of t p k).target ks

-- the labels of the positions held, first to last
abbrev pub labels : Table → ℕ → List ℕ → List ℕ
labels t p ks = map (λ q. (row_at t q).label) (held t p ks)

-- bruise and energy of each move, in order
abbrev pub charges : Table → ℕ → List ℕ → List (ℕ × ℕ)
charges t p [] = []
charges t p (k ∷ ks) = ((move_of t p k).bruise, (move_of t p k).energy) ∷ charges t (move_of t p k).target ks
