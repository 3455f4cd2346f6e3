use Rattle.ff_orders.specs.Given.{AreFirstNumbers}
use Rattle.ff_orders.proofs.rings.numbers_of.Given as goal

abbrev pub invariant-loop-i : goal.invariant-loop-i
invariant-loop-i l = AreFirstNumbers l.rings l.given l.i l.numbers
