use Rattle.ff_edges.specs.Extents.{IsExtent, AreRound}
use Rattle.ff_edges.proofs.reaches.ring_extent.Given as goal

abbrev pub invariant-loop-i : goal.invariant-loop-i
invariant-loop-i l = record {
  extent : IsExtent l.extent;
  round : AreRound l.points l.ring l.i l.extent;
}
