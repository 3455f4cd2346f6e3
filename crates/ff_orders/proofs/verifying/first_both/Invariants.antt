use Rattle.ff_orders.specs.Noted.{BothAt}
use Rattle.ff_orders.proofs.Loops.{NoneBelow}
use Rattle.ff_orders.proofs.verifying.first_both.Given as goal

abbrev pub invariant-loop-n : goal.invariant-loop-n
invariant-loop-n l = NoneBelow (BothAt l.said) l.n
