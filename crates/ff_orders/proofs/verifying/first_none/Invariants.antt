use Rattle.ff_orders.specs.Noted.{NoneAt}
use Rattle.ff_orders.proofs.Loops.{NoneBelow}
use Rattle.ff_orders.proofs.verifying.first_none.Given as goal

abbrev pub invariant-loop-n : goal.invariant-loop-n
invariant-loop-n l = NoneBelow (NoneAt l.said) l.n
