use Rattle.std.proofs.Common.{ℕ, ◌<◌}
use Rattle.ff_types.specs.FaceRefusals.{RimAt}
use Rattle.ff_planar.proofs.sides.first_rim.Given as goal

abbrev pub invariant-loop-e : goal.invariant-loop-e
invariant-loop-e l = (k : ℕ) → k < l.e → RimAt l.points l.edges l.marks k → ⊥
