use Rattle.ff_orders.specs.Noted.{DeadAt}
use Rattle.ff_orders.proofs.Loops.{NoneBelow}
use Rattle.ff_orders.proofs.verifying.first_dead.Given as goal

abbrev pub invariant-loop-c : goal.invariant-loop-c
invariant-loop-c l = NoneBelow (DeadAt l.said l.constraints) l.c
