use Rattle.std.proofs.Common.{◌≡◌, ℕ, ◌<◌, length}
use Rattle.ff_drawn.specs.Extents.{extent_at, IsAroundEdge}
use Rattle.ff_drawn.proofs.extents.edge_extents.Given as goal

abbrev pub invariant-loop-e : goal.invariant-loop-e
invariant-loop-e l = record {
  count : length l.list.items ≡ l.e;
  each : (k : ℕ) → k < l.e → IsAroundEdge l.points l.edges (extent_at l.list.items k) × ((extent_at l.list.items k).number ≡ k);
}
