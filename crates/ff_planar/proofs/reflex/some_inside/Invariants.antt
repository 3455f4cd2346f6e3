use Rattle.std.proofs.Common.{ℕ, ◌<◌}
use Rattle.ff_types.specs.Faces.{ring_at}
use Rattle.ff_planar.specs.Reflex.{IsInside}
use Rattle.ff_planar.proofs.reflex.some_inside.Given as goal

abbrev pub invariant-loop-f : goal.invariant-loop-f
invariant-loop-f l = (k : ℕ) → k < l.f → IsInside l.points (ring_at l.rings k) l.v → ⊥
