use Rattle.std.proofs.Common.{ℕ, ◌<◌}
use Rattle.ff_types.specs.FaceRefusals.{CrossingAt}
use Rattle.ff_drawn.proofs.drawings.first_across.Given as goal

abbrev pub invariant-loop-k : goal.invariant-loop-k
invariant-loop-k l = (k : ℕ) → k < l.k → CrossingAt l.points l.edges l.e k → ⊥
