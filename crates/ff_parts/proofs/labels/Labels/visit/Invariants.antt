use Rattle.ff_propagate.specs.Facts.{value_at}
use Rattle.ff_parts.proofs.Following.{IsVisiting}
use Rattle.ff_parts.proofs.labels.Labels.visit.Given as goal

abbrev pub invariant-loop-k : goal.invariant-loop-k
invariant-loop-k l = IsVisiting l.system.vars l.system.constraints (value_at l.facts) l.part l.head l.var
    l.list l.k l.fn.self l.self
