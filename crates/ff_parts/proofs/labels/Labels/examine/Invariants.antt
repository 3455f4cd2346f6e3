use Rattle.ff_propagate.specs.Facts.{value_at}
use Rattle.ff_parts.proofs.Reaching.{IsExamining}
use Rattle.ff_parts.proofs.labels.Labels.examine.Given as goal

abbrev pub invariant-loop-j : goal.invariant-loop-j
invariant-loop-j l = IsExamining l.system.vars l.system.constraints (value_at l.facts) l.part l.con l.j
    l.fn.self l.self
