use Rattle.std.proofs.Common.{refl, arith}
use Rattle.ff_types.proofs.PairOrder.{sorted_from_next}
use Rattle.ff_types.proofs.pairs.are_sorted.Goals as goal

pub returns : goal.returns
returns c = (λ _. sorted_from_next c.args.list.now (λ k h. c.loop-n.invariant k (omega (arith, h))), λ _. refl)
