use Rattle.std.proofs.Common.{◌-◌}
use Rattle.ff_propagate.specs.Facts.{value_at}
use Rattle.ff_parts.proofs.Following.{IsFollowing}
use Rattle.ff_parts.proofs.labels.Labels.spread.Given as goal

abbrev pub invariant-loop-at : goal.invariant-loop-at
invariant-loop-at l = IsFollowing l.system.vars l.system.constraints (value_at l.facts) l.part l.at l.fn.self
    l.self

abbrev pub decreases-loop-at : goal.decreases-loop-at
decreases-loop-at l = l.system.vars - l.at
