use Rattle.std.proofs.Common.{◌≡◌, length}
use Rattle.ff_planar.specs.Reflex.{AreUnbent}
use Rattle.ff_planar.proofs.bends.any_bent.Given as goal

abbrev pub invariant-loop-f : goal.invariant-loop-f
invariant-loop-f l = (length l.marked.items ≡ length l.points) × AreUnbent l.points l.rings l.f
