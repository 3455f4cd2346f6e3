use Rattle.ff_reflect.proofs.Puts.{IsGrownTo}
use Rattle.ff_reflect.proofs.placed.grow.Given as goal

abbrev pub invariant-loop-i : goal.invariant-loop-i
invariant-loop-i l = IsGrownTo l.fn.factor l.initial.points.items l.points.items l.i
