use Rattle.ff_propagate.specs.Facts.{value_at}
use Rattle.ff_parts.specs.Marks.{AreDecided}
use Rattle.ff_parts.proofs.marking.mark.Given as goal

abbrev pub invariant-loop-j : goal.invariant-loop-j
invariant-loop-j l = AreDecided (value_at l.facts) l.con l.j
