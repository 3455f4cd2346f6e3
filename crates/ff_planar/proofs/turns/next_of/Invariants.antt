use Rattle.ff_planar.proofs.NextDarts.{IsLast}
use Rattle.ff_planar.proofs.turns.next_of.Given as goal

abbrev pub invariant-loop-c : goal.invariant-loop-c
invariant-loop-c l = IsLast l.points l.darts l.u l.v l.start l.end l.c l.last
