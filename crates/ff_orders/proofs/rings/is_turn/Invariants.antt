use Rattle.std.proofs.Common.{◌≡◌, ◌++◌, drop, take}
use Rattle.ff_orders.proofs.Loops.{NoneBelow}
use Rattle.ff_orders.proofs.rings.is_turn.Given as goal

abbrev pub invariant-loop-k : goal.invariant-loop-k
invariant-loop-k l = NoneBelow (λ k. l.list ≡ drop k l.ring ++ take k l.ring) l.k
