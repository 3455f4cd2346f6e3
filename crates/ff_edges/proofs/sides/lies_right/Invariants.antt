use Rattle.std.proofs.Common.{ℕ, ◌<◌, pos, ◌≤ℤ◌, slice_index}
use Rattle.ff_whole.specs.Points.{turn}
use Rattle.ff_whole.specs.Convex.{point_at}
use Rattle.ff_edges.proofs.sides.lies_right.Given as goal

abbrev pub invariant-loop-i : goal.invariant-loop-i
invariant-loop-i l = (k : ℕ) → k < l.i → pos 0 ≤ℤ turn l.q l.p (point_at l.points (slice_index l.ring k))
