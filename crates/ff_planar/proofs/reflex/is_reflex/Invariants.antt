use Rattle.std.proofs.Common.{ℕ, ◌<◌}
use Rattle.ff_planar.specs.Reflex.{IsBad}
use Rattle.ff_planar.proofs.reflex.is_reflex.Given as goal

abbrev pub invariant-loop-j : goal.invariant-loop-j
invariant-loop-j l = (k : ℕ) → k < l.j → IsBad l.points l.ring l.i k → ⊥
