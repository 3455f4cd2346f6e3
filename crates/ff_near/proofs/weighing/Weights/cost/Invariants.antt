use Rattle.std.proofs.Common.{◌≡◌, ◌≤◌, length, drop}
use Rattle.ff_near.specs.Distance.{cost}
use Rattle.ff_near.proofs.weighing.Weights.cost.Given as goal

abbrev pub invariant-loop-k : goal.invariant-loop-k
invariant-loop-k l = (l.total ≡ cost l.case.pairs l.list (drop l.k l.part) (drop l.k l.values)) × (l.k ≤ length l.part)

abbrev pub decreases-loop-k : goal.decreases-loop-k
decreases-loop-k l = l.k
