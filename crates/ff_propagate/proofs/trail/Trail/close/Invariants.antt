use Rattle.std.proofs.Common.{◌-◌, ◌≤◌, length}
use Rattle.ff_propagate.specs.Trails.{IsTrail, Grows, AreReady}
use Rattle.ff_propagate.proofs.trail.Trail.close.Given as goal

abbrev pub invariant-loop-at : goal.invariant-loop-at
invariant-loop-at l = IsTrail l.system.vars l.self × Grows l.system.constraints l.fn.self l.self
    × (l.at ≤ length l.self.steps.items) × AreReady l.system.constraints l.self l.at

abbrev pub decreases-loop-at : goal.decreases-loop-at
decreases-loop-at l = l.system.vars - l.at
