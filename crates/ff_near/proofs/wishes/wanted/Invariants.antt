use Rattle.ff_near.specs.Noting.{AreNoted}
use Rattle.ff_near.proofs.wishes.wanted.Given as goal

abbrev pub invariant-loop-i : goal.invariant-loop-i
invariant-loop-i l = AreNoted l.case.pairs l.list l.i l.seen.items
