use Rattle.game.proofs.Rounds.{row_kept, never_rises}
use Rattle.game.proofs.theorems.rounds_never_rise.Goals as goal

pub returns : goal.returns
returns g c = let k = g.C.Cost.kind in let l = g.met.C.Cost.laws in record { monotone = row_kept k l; never_rise = never_rises k l }
