use Rattle.ff_read.specs.Seen.{AreRising}
use Rattle.ff_read.proofs.edges.are_rising.Given as goal

abbrev pub invariant-loop-i : goal.invariant-loop-i
invariant-loop-i l = AreRising l.keys l.i
