use Rattle.std.proofs.Common.{ℕ, ◌<◌}
use Rattle.ff_types.specs.FaceRefusals.{ReflexAt}
use Rattle.ff_planar.proofs.reflex.first_reflex.Given as goal

abbrev pub invariant-loop-v : goal.invariant-loop-v
invariant-loop-v l = (k : ℕ) → k < l.v → ReflexAt l.points l.edges k → ⊥
