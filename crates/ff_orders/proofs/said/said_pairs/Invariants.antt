use Rattle.ff_orders.specs.Noted.{AreNoted}
use Rattle.ff_orders.proofs.said.said_pairs.Given as goal

abbrev pub invariant-loop-i : goal.invariant-loop-i
invariant-loop-i l = AreNoted l.up l.pairs l.items l.i l.said.items
