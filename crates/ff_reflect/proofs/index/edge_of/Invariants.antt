use Rattle.ff_reflect.proofs.Indexed.{IsAhead, room}
use Rattle.ff_reflect.proofs.index.edge_of.Given as goal

abbrev pub invariant-loop-at : goal.invariant-loop-at
invariant-loop-at l = IsAhead l.edges l.u l.v l.at

abbrev pub decreases-loop-at : goal.decreases-loop-at
decreases-loop-at l = room l.at
