use Rattle.ff_drawn.specs.Extents.{CrossesNone}
use Rattle.ff_drawn.proofs.crossings.crosses_another.Given as goal

abbrev pub invariant-loop-j : goal.invariant-loop-j
invariant-loop-j l = CrossesNone l.points l.edges l.list l.i l.j
