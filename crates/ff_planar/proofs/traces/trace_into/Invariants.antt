use Rattle.ff_planar.proofs.TracedWalks.{IsTraced}
use Rattle.ff_planar.proofs.traces.trace_into.Given as goal

abbrev pub invariant-loop-d : goal.invariant-loop-d
invariant-loop-d l = IsTraced l.points l.edges l.darts l.nexts l.d l.rings.items l.sides
