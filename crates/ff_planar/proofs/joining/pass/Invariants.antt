use Rattle.ff_planar.specs.Joining.{PassedTo}
use Rattle.ff_planar.proofs.joining.pass.Given as goal

abbrev pub invariant-loop-e : goal.invariant-loop-e
invariant-loop-e l = PassedTo l.sides l.e l.fn.reached l.reached l.grown
