use Rattle.std.proofs.Common.{◌≡◌, ℕ, ◌<◌, length}
use Rattle.ff_drawn.specs.Extents.{extent_at}
use Rattle.ff_drawn.specs.Extents.{IsVertexExtent}
use Rattle.ff_drawn.proofs.spots.vertex_extents.Given as goal

abbrev pub invariant-loop-v : goal.invariant-loop-v
invariant-loop-v l = record {
  count : length l.list.items ≡ l.v;
  each : (k : ℕ) → k < l.v → IsVertexExtent l.points (extent_at l.list.items k) × ((extent_at l.list.items k).number ≡ k);
}
