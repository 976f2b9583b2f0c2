-- How far a run has come, at its beginning and after a move.
use Rattle.std.specs.Prelude.{ℕ, ◌+◌, min, cond}
use Rattle.board.specs.Table.{Table, row_at}
use Rattle.board.specs.declared.parts.Turn.{Turn}
use Rattle.board.specs.declared.parts.Turn.TheVariants.{Arm, Person}
use Rattle.cost.specs.Kind.{Kind}
use Rattle.game.specs.Plays.{move_of}
use Rattle.game.specs.Rounds.{charge_of}
use Rattle.game.specs.declared.parts.Phase.{Phase}
use Rattle.game.specs.declared.parts.Phase.TheVariants.{ArmTurn, PersonTurn, Ended}
use Rattle.game.specs.declared.parts.Progress.{Progress}

-- the phase by whose turn it is
abbrev pub turn_phase : Turn → Phase
turn_phase Arm = ArmTurn
turn_phase Person = PersonTurn

-- the phase on coming to p: ended where it rests, otherwise by its turn
abbrev pub phase_at : Table → ℕ → Phase
phase_at t p = cond (row_at t p).rests Ended (turn_phase (row_at t p).turn)

-- a new run at p has spent zero and made no move
abbrev pub begun : {C : Type 0} → Kind C → Table → ℕ → Progress C
begun k t p = record { position = p; spent = k.zero; made = 0; phase = phase_at t p }

-- after move m; the count of moves stops at 4,294,967,295
abbrev pub moved : {C : Type 0} → Kind C → Table → Progress C → ℕ → Progress C
moved k t r m = record {
  position = (move_of t r.position m).target;
  spent = k.add r.spent (charge_of k (move_of t r.position m));
  made = min (r.made + 1) 4294967295;
  phase = phase_at t (move_of t r.position m).target;
}
