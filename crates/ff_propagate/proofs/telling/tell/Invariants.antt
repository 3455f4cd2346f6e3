use Rattle.ff_propagate.specs.RuleLaws.{HasFacts}
use Rattle.ff_propagate.specs.Telling.{AreTold}
use Rattle.ff_propagate.proofs.telling.tell.Given as goal

abbrev pub invariant-loop-number : goal.invariant-loop-number
invariant-loop-number l = AreTold l.system.vars l.system.constraints l.givens l.trail l.number l.facts
    × HasFacts l.facts l.fn.facts
