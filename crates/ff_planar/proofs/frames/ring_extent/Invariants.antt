use Rattle.std.proofs.Common.{◌≡◌}
use Rattle.ff_planar.specs.Frames.{IsAroundCorners}
use Rattle.ff_planar.proofs.frames.ring_extent.Given as goal

abbrev pub invariant-loop-i : goal.invariant-loop-i
invariant-loop-i l = record {
  around : IsAroundCorners l.points l.ring l.i l.e;
  number : l.e.number ≡ l.number;
}
