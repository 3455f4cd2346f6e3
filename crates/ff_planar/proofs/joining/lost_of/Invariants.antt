use Rattle.std.proofs.Common.{ℕ, ◌<◌}
use Rattle.ff_planar.specs.Joining.{AreLinked}
use Rattle.ff_planar.proofs.joining.lost_of.Given as goal

abbrev pub invariant-loop-f : goal.invariant-loop-f
invariant-loop-f l = (g : ℕ) → g < l.f → AreLinked l.sides 0 g
