use Rattle.std.proofs.Common.{length}
use Rattle.ff_propagate.specs.Trails.{IsTrail, Grows, AreReadyBelow}
use Rattle.ff_propagate.proofs.trail.Trail.pass.Given as goal

abbrev pub invariant-loop-number : goal.invariant-loop-number
invariant-loop-number l = IsTrail l.system.vars l.self × Grows l.system.constraints l.fn.self l.self
    × AreReadyBelow l.system.constraints l.self (length l.fn.self.steps.items) l.number
