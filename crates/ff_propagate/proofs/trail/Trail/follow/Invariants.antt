use Rattle.std.proofs.Common.{◌+◌}
use Rattle.ff_propagate.specs.Trails.{IsTrail, Grows}
use Rattle.ff_propagate.proofs.TrailVisits.{Almost}
use Rattle.ff_propagate.proofs.trail.Trail.follow.Given as goal

abbrev pub invariant-loop-k : goal.invariant-loop-k
invariant-loop-k l = IsTrail l.system.vars l.self × Grows l.system.constraints l.fn.self l.self
    × Almost l.system.constraints l.self (l.head + 1) l.list l.k
