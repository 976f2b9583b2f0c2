-- Strategies with any memory, and the play of one against another.
use Rattle.std.specs.Prelude.{◌≡◌, ℕ, zero, suc, ◌<◌, false, cond, List, [], ◌∷◌, ◌++◌, Some, None, Option}
use Rattle.board.specs.Table.{Table, row_at}
use Rattle.board.specs.declared.parts.Turn.{Turn}
use Rattle.board.specs.declared.parts.Turn.TheVariants.{Arm, Person}
use Rattle.game.specs.Plays.{degree, move_of, Play, endpoint}

-- a strategy answers all moves so far by a move, or by none
abbrev pub Strategy : Type 0
Strategy = List ℕ → Option ℕ

-- p does not rest, and this one moves there
pub record ToMove (t : Table) (p : ℕ) (turn : Turn) : Type 0 where
  pub awake : (row_at t p).rests ≡ false
  pub whose : (row_at t p).turn ≡ turn

-- an arm, in plays from p: what it picks is there; it may pick none
abbrev pub ArmStrategy : Table → ℕ → Strategy → Type 0
ArmStrategy t p arm = (h : List ℕ) (m : ℕ) → Play t p h → ToMove t (endpoint t p h) Arm → arm h ≡ Some m → m < degree t (endpoint t p h)

-- a person, in plays from p: wherever a move is there it picks one that is there
abbrev pub PersonStrategy : Table → ℕ → Strategy → Type 0
PersonStrategy t p person = (h : List ℕ) → Play t p h → ToMove t (endpoint t p h) Person → 0 < degree t (endpoint t p h)
    → (m : ℕ) × (person h ≡ Some m) × (m < degree t (endpoint t p h))

-- the answer of the one who moves
abbrev pub by_turn : Turn → Option ℕ → Option ℕ → Option ℕ
by_turn Arm a b = a
by_turn Person a b = b

-- what is picked at p after the moves h; none at rest
abbrev pub pick : Table → Strategy → Strategy → ℕ → List ℕ → Option ℕ
pick t arm person p h = cond (row_at t p).rests None (by_turn (row_at t p).turn (arm h) (person h))

-- the move picked and what follows it; nothing where none is picked
abbrev pub onward : (ℕ → List ℕ) → Option ℕ → List ℕ
onward rest None = []
onward rest (Some m) = m ∷ rest m

-- the play of an arm against a person, from p after the moves h: until it rests, none is picked, or n moves are made
abbrev pub play_of : Table → Strategy → Strategy → ℕ → ℕ → List ℕ → List ℕ
play_of t arm person zero p h = []
play_of t arm person (suc n) p h = onward (λ m. play_of t arm person n (move_of t p m).target (h ++ (m ∷ []))) (pick t arm person p h)

-- the strategy that makes the planned moves, in plays from p; it asks for no memory but the position
abbrev pub plan_strategy : Table → (ℕ → Option ℕ) → ℕ → Strategy
plan_strategy t plan p h = plan (endpoint t p h)
