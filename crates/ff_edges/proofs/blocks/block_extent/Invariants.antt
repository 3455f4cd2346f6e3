use Rattle.ff_edges.specs.Extents.{IsExtent, IsRoundAll}
use Rattle.ff_edges.proofs.blocks.block_extent.Given as goal

abbrev pub invariant-loop-k : goal.invariant-loop-k
invariant-loop-k l = record {
  extent : IsExtent l.extent;
  round : IsRoundAll l.list l.from l.k l.extent;
}
