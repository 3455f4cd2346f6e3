use Rattle.ff_drawn.proofs.SamePoints.{HasSeen}
use Rattle.ff_drawn.proofs.drawings.first_same_point.Given as goal

abbrev pub invariant-loop-v : goal.invariant-loop-v
invariant-loop-v l = HasSeen l.points l.v l.seen
