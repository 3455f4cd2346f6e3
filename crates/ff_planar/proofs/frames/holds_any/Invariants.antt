use Rattle.ff_planar.specs.Frames.{HoldsNone}
use Rattle.ff_planar.proofs.frames.holds_any.Given as goal

abbrev pub invariant-loop-j : goal.invariant-loop-j
invariant-loop-j l = HoldsNone l.points l.ring l.spots l.start l.j
