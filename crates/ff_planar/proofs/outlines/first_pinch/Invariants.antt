use Rattle.ff_planar.proofs.OuterDarts.{IsLastOut}
use Rattle.ff_planar.proofs.outlines.first_pinch.Given as goal

abbrev pub invariant-loop-d : goal.invariant-loop-d
invariant-loop-d l = IsLastOut l.darts l.sides l.d l.last
