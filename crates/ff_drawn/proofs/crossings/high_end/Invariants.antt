use Rattle.ff_whole.specs.Points.{IsNear}
use Rattle.ff_drawn.proofs.crossings.high_end.Given as goal

abbrev pub invariant-loop-i : goal.invariant-loop-i
invariant-loop-i l = IsNear l.high
