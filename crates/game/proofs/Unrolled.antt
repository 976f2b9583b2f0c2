-- The play of two strategies, move by move.
use Rattle.std.proofs.Common.{◌≡◌, ℕ, suc, true, List, [], ◌∷◌, ◌++◌, Some, None, refl, ap}
use Rattle.board.specs.Table.{Table, row_at}
use Rattle.board.specs.declared.parts.Turn.TheVariants.{Arm, Person}
use Rattle.game.specs.Plays.{move_of, Allowed, Play, endpoint}
use Rattle.game.specs.Strategies.{Strategy, ToMove, pick, onward, play_of}

module _ (t : Table) where
  -- one move more at the end
  pub endpoint_push : (p : ℕ) (h : List ℕ) (m : ℕ) → endpoint t p (h ++ (m ∷ [])) ≡ (move_of t (endpoint t p h) m).target
  endpoint_push p [] m = refl
  endpoint_push p (x ∷ h) m = endpoint_push (move_of t p x).target h m

  pub play_push : (p : ℕ) (h : List ℕ) (m : ℕ) → Play t p h → Allowed t (endpoint t p h) m → Play t p (h ++ (m ∷ []))
  play_push p [] m play a = (a, tt)
  play_push p (x ∷ h) m play a = (play.0, play_push (move_of t p x).target h m play.1 a)

  module _ (arm person : Strategy) where
    pub play_next : (n p : ℕ) (h : List ℕ) (m : ℕ) → pick t arm person p h ≡ Some m
        → play_of t arm person (suc n) p h ≡ m ∷ play_of t arm person n (move_of t p m).target (h ++ (m ∷ []))
    play_next n p h m e = ap (onward (λ x. play_of t arm person n (move_of t p x).target (h ++ (x ∷ [])))) e

    pub play_stop : (n p : ℕ) (h : List ℕ) → pick t arm person p h ≡ None → play_of t arm person (suc n) p h ≡ []
    play_stop n p h e = ap (onward (λ x. play_of t arm person n (move_of t p x).target (h ++ (x ∷ [])))) e

    pub pick_rest : (p : ℕ) (h : List ℕ) → (row_at t p).rests ≡ true → pick t arm person p h ≡ None
    pick_rest p h e = rw e

    pub pick_arm : (p : ℕ) (h : List ℕ) → ToMove t p Arm → pick t arm person p h ≡ arm h
    pick_arm p h m = rw (m.awake, m.whose)

    pub pick_person : (p : ℕ) (h : List ℕ) → ToMove t p Person → pick t arm person p h ≡ person h
    pick_person p h m = rw (m.awake, m.whose)
