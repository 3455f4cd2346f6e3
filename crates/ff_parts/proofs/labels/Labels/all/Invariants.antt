use Rattle.ff_propagate.specs.Facts.{value_at}
use Rattle.ff_parts.specs.Labels.{IsBelow}
use Rattle.ff_parts.proofs.labels.Labels.all.Given as goal

abbrev pub invariant-loop-var : goal.invariant-loop-var
invariant-loop-var l = IsBelow l.system.vars l.system.constraints (value_at l.facts) l.var l.labels
