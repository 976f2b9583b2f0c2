-- Theorem: the rounds come to an end, after at most F of them.
use Rattle.std.specs.Prelude.{◌≡◌, ℕ, suc, ◌<◌, ◌≤◌, true, List, length, ◌≢◌}
use Rattle.board.specs.Table.{Table}
use Rattle.cost.specs.Kind.{Kind}
use Rattle.orders.specs.Counting.{Distinct}
use Rattle.std.specs.List.{AllByRecursion}
use Rattle.game.specs.Open.{is_open, open_positions}
use Rattle.game.specs.Rounds.{round, NumberOfRounds}

-- n + 1 positions, no two the same, that are open after round n + 1
pub record OpenThen {C : Type 0} (k : Kind C) (t : Table) (n : ℕ) : Type 0 where
  pub those : List ℕ
  pub many : length those ≡ suc n
  pub distinct : Distinct those
  pub all_open : AllByRecursion (λ q. (q < length t.rows) × (is_open t (round k t (suc n)) q ≡ true)) those

pub record RoundsEnd {C : Type 0} (k : Kind C) (t : Table) : Type 0 where
  -- a position that changes in round n + 1 shows as many open positions
  pub shown : (n p : ℕ) → (round k t (suc n) p ≢ round k t n p) → OpenThen k t n
  -- there is one number of rounds, and it is at most F
  pub rounds : ℕ
  pub number : NumberOfRounds k t rounds
  pub only : (n : ℕ) → NumberOfRounds k t n → n ≡ rounds
  -- no later round changes anything
  pub final : (n p : ℕ) → rounds ≤ n → round k t n p ≡ round k t rounds p
  pub few : rounds ≤ open_positions t (round k t rounds)

abbrev pub RoundsComeToAnEnd : {C : Type 0} → Kind C → Type 0
RoundsComeToAnEnd k = (t : Table) → RoundsEnd k t
