use Rattle.std.proofs.Common.{ℕ, ◌<◌}
use Rattle.ff_whole.specs.Turning.{IsCorner}
use Rattle.ff_whole.proofs.convex.are_corners.Given as goal

abbrev pub invariant-loop-i : goal.invariant-loop-i
invariant-loop-i l = (k : ℕ) → k < l.i → IsCorner l.points l.first k
