use Rattle.std.proofs.Common.{◌-◌, length}
use Rattle.ff_propagate.specs.Trails.{IsTrail, Grows}
use Rattle.ff_propagate.proofs.trail.Trail.passes.Given as goal

abbrev pub invariant-passes : goal.invariant-passes
invariant-passes l = IsTrail l.system.vars l.self × Grows l.system.constraints l.fn.self l.self

abbrev pub decreases-passes : goal.decreases-passes
decreases-passes l = l.system.vars - length l.self.steps.items
