use Rattle.std.proofs.Common.{ℕ, ◌<◌}
use Rattle.ff_whole.specs.Points.{IsNear}
use Rattle.ff_whole.specs.Convex.{point_at}
use Rattle.ff_read.proofs.patterns.first_far.Given as goal

abbrev pub invariant-loop-i : goal.invariant-loop-i
invariant-loop-i l = (v : ℕ) → v < l.i → IsNear (point_at l.points v)
