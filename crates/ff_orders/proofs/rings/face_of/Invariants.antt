use Rattle.ff_types.specs.Faces.{ring_at}
use Rattle.ff_orders.specs.Given.{IsTurn}
use Rattle.ff_orders.proofs.Loops.{NoneBelow}
use Rattle.ff_orders.proofs.rings.face_of.Given as goal

abbrev pub invariant-loop-f : goal.invariant-loop-f
invariant-loop-f l = NoneBelow (λ f. IsTurn (ring_at l.rings f) l.list) l.f
