use Rattle.ff_drawn.proofs.VertexSpots.{NeighboursDiffer}
use Rattle.ff_drawn.proofs.spots.any_same.Given as goal

abbrev pub invariant-loop-i : goal.invariant-loop-i
invariant-loop-i l = NeighboursDiffer l.spots l.i
