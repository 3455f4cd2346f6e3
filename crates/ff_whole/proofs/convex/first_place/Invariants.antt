use Rattle.std.proofs.Common.{ℕ, ◌<◌, ◌≤ℤ◌, length}
use Rattle.ff_whole.specs.Convex.{point_at}
use Rattle.ff_whole.specs.Turning.{rank}
use Rattle.ff_whole.proofs.convex.first_place.Given as goal

abbrev pub invariant-loop-i : goal.invariant-loop-i
invariant-loop-i l = record {
  within : l.first < length l.points;
  least : (k : ℕ) → k < l.i → rank (point_at l.points l.first) ≤ℤ rank (point_at l.points k);
}
