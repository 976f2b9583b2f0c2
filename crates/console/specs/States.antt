-- What a console has come to.
use Rattle.console.specs.declared.desk.State.{State}
use Rattle.console.specs.declared.desk.State.TheVariants.{Open, Ended, Failed}

-- whether something has failed, after `end` was read or before
abbrev pub HasFailed : State → Type 0
HasFailed Open = ⊥
HasFailed Ended = ⊥
HasFailed (Failed ended) = Unit {0}
