use Rattle.ff_edges.specs.Extents.{AreBlocksTo}
use Rattle.ff_edges.proofs.blocks.block_extents.Given as goal

abbrev pub invariant-loop-b : goal.invariant-loop-b
invariant-loop-b l = AreBlocksTo l.list l.b l.blocks.items
