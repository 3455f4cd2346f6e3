use Rattle.ff_drawn.proofs.EdgeExtents.{in_order}
use Rattle.ff_drawn.proofs.VertexSpots.{same_vertices}
use Rattle.ff_drawn.proofs.spots.spots_of.Goals as goal

pub returns : goal.returns
returns c = record {
  vertices = same_vertices c.args.points.now _ _ c.in_ok-spots.ensures c.in_ok-sort.ensures.permutation;
  in_order = in_order _ c.in_ok-sort.ensures.sorted;
}
