use Rattle.std.proofs.Common.{ℕ, ◌<◌, ◌≤◌, length}
use Rattle.ff_drawn.specs.Extents.{extent_at}
use Rattle.ff_planar.specs.Frames.{AreWest, AreHollow}
use Rattle.ff_planar.proofs.frames.any_held.Given as goal

abbrev pub invariant-loop-i : goal.invariant-loop-i
invariant-loop-i l = record {
  within : l.start ≤ length l.spots;
  before : (k : ℕ) → l.i ≤ k → k < length l.frames → AreWest l.spots (extent_at l.frames k) l.start;
  hollow : AreHollow l.points l.rings l.spots l.frames l.i;
}
