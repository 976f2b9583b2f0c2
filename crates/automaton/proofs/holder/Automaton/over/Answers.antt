use Rattle.std.proofs.Common.{◌<◌, length, rules, arith}
use Rattle.std.specs.List.{All}
use Rattle.entries.specs.declared.Arrow.{Arrow}
use Rattle.automaton.specs.Follows.{absent_arrow}
use Rattle.automaton.proofs.First.{made}
use Rattle.automaton.proofs.holder.Automaton.over.Goals as goal

pub returns-then-all : goal.returns-then-all
returns-then-all c =
    let inside : All (λ (a : Arrow). (a.from < length c.args.states.now) × (a.to < length c.args.states.now)) c.args.arrows.now = search rules in
    made c.args.states.now c.args.arrows.now (record { few = omega arith; inside = λ i h. inside i absent_arrow h })
