use Rattle.std.proofs.Common.{◌-◌, ◌≤◌, length}
use Rattle.ff_planar.specs.Frames.{AreWest}
use Rattle.ff_planar.proofs.frames.first_from.Given as goal

abbrev pub invariant-loop-place : goal.invariant-loop-place
invariant-loop-place l = record {
  within : l.place ≤ length l.spots;
  before : AreWest l.spots l.frame l.place;
}

abbrev pub decreases-loop-place : goal.decreases-loop-place
decreases-loop-place l = length l.spots - l.place
