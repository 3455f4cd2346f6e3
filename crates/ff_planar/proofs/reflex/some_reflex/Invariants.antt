use Rattle.std.proofs.Common.{ℕ, ◌<◌}
use Rattle.ff_types.specs.Faces.{ring_at}
use Rattle.ff_planar.specs.Reflex.{HasReflex}
use Rattle.ff_planar.proofs.reflex.some_reflex.Given as goal

abbrev pub invariant-loop-f : goal.invariant-loop-f
invariant-loop-f l = (k : ℕ) → k < l.f → HasReflex l.points (ring_at l.rings k) l.v → ⊥
