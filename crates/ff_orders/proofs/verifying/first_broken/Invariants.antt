use Rattle.ff_orders.specs.Noted.{BrokenAt}
use Rattle.ff_orders.proofs.Loops.{NoneBelow}
use Rattle.ff_orders.proofs.verifying.first_broken.Given as goal

abbrev pub invariant-loop-i : goal.invariant-loop-i
invariant-loop-i l = NoneBelow (BrokenAt l.said l.starts) l.i
