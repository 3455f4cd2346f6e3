use Rattle.std.proofs.Common.{length}
use Rattle.ff_drawn.proofs.SeenDarts.{HasDarts}
use Rattle.ff_drawn.proofs.darts.both_ways.Given as goal

abbrev pub invariant-loop-there : goal.invariant-loop-there
invariant-loop-there l = HasDarts l.edges l.there-index 0 l.darts.items

abbrev pub invariant-loop-back : goal.invariant-loop-back
invariant-loop-back l = HasDarts l.edges (length l.edges) l.back-index l.darts.items
