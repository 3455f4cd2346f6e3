use Rattle.std.proofs.Common.{take}
use Rattle.ff_near.specs.Weights.{AreWeights}
use Rattle.ff_near.proofs.weighing.weights_of.Given as goal

abbrev pub invariant-loop-i : goal.invariant-loop-i
invariant-loop-i l = AreWeights l.case.pairs (take l.i l.list) l.weights.below.items l.weights.above.items
