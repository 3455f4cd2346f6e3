use Rattle.ff_pairs.specs.Tables.{AreRaised}
use Rattle.ff_pairs.proofs.reaching.raise.Given as goal

abbrev pub invariant-loop-i : goal.invariant-loop-i
invariant-loop-i l = AreRaised l.fn.reach l.reach l.faces l.i l.past
