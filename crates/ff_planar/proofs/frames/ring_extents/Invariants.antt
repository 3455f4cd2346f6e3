use Rattle.std.proofs.Common.{◌≡◌, ℕ, ◌<◌, length}
use Rattle.ff_drawn.specs.Extents.{extent_at}
use Rattle.ff_planar.specs.Frames.{IsRingExtent}
use Rattle.ff_planar.proofs.frames.ring_extents.Given as goal

abbrev pub invariant-loop-f : goal.invariant-loop-f
invariant-loop-f l = record {
  count : length l.list.items ≡ l.f;
  each : (k : ℕ) → k < l.f → IsRingExtent l.points l.rings (extent_at l.list.items k) × ((extent_at l.list.items k).number ≡ k);
}
