use Rattle.std.proofs.Common.{ℕ, ◌<◌, length}
use Rattle.ff_drawn.specs.Extents.{CrossesNone}
use Rattle.ff_drawn.proofs.crossings.any_later.Given as goal

abbrev pub invariant-loop-i : goal.invariant-loop-i
invariant-loop-i l = (k : ℕ) → k < l.i → CrossesNone l.points l.edges l.list k (length l.list)
