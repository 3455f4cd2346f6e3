use Rattle.std.proofs.Common.{◌≡◌, ◌≤◌, ◌*◌, ◌^◌, take, sum_by}
use Rattle.ff_near.specs.declared.parts.PartBest.{PartBest}
use Rattle.ff_near.proofs.counting.total_cost.Given as goal

abbrev pub invariant-loop-k : goal.invariant-loop-k
invariant-loop-k l = (l.total ≡ sum_by (λ (b : PartBest). b.cost) (take l.k l.bests)) × (l.total ≤ l.k * 2 ^ 32)
