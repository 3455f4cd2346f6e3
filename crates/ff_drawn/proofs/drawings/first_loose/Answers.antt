use Rattle.std.proofs.Common.{rules}
use borrow.Author.Count.{below_more}
use Rattle.ff_types.specs.Drawings.{HasTwoEdges}
use Rattle.ff_drawn.proofs.drawings.first_loose.Goals as goal

pub loop-v-preserved : goal.loop-v-preserved
loop-v-preserved c = below_more (HasTwoEdges c.args.edges.now) c.loop-v.v c.loop-v.invariant (c.has_two_edges.ensures.0 (search rules))
