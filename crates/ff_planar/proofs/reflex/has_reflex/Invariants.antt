use Rattle.std.proofs.Common.{◌≡◌, ℕ, ◌<◌}
use Rattle.ff_types.specs.Rings.{corner}
use Rattle.ff_planar.specs.Reflex.{IsReflex}
use Rattle.ff_planar.proofs.reflex.has_reflex.Given as goal

abbrev pub invariant-loop-i : goal.invariant-loop-i
invariant-loop-i l = (k : ℕ) → k < l.i → (corner l.ring k ≡ l.v) × IsReflex l.points l.ring k → ⊥
