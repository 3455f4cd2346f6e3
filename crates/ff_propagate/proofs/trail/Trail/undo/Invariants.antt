use Rattle.std.proofs.Common.{vec_len}
use Rattle.ff_propagate.proofs.TrailUndoes.{IsUndoing}
use Rattle.ff_propagate.proofs.trail.Trail.undo.Given as goal

abbrev pub invariant-loop-self : goal.invariant-loop-self
invariant-loop-self l = IsUndoing l.fn.vars l.fn.steps l.fn.self l.self

abbrev pub decreases-loop-self : goal.decreases-loop-self
decreases-loop-self l = vec_len l.self.steps
