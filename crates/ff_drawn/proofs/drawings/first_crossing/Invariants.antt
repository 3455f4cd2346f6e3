use Rattle.std.proofs.Common.{ℕ, ◌<◌}
use Rattle.ff_types.specs.FaceRefusals.{CrossingAt}
use Rattle.ff_drawn.proofs.drawings.first_crossing.Given as goal

abbrev pub invariant-loop-e : goal.invariant-loop-e
invariant-loop-e l = (d k : ℕ) → d < l.e → CrossingAt l.points l.edges d k → ⊥
