use Rattle.std.proofs.Common.{ℕ, ◌<◌, pos, ◌<ℤ◌}
use Rattle.ff_planar.specs.Reflex.{left_of_step}
use Rattle.ff_planar.proofs.reflex.is_inside.Given as goal

abbrev pub invariant-loop-j : goal.invariant-loop-j
invariant-loop-j l = (k : ℕ) → k < l.j → pos 0 <ℤ left_of_step l.points l.ring k l.v
