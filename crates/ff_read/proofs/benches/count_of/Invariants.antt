use Rattle.std.proofs.Common.{◌≡◌, ◌≤◌, ◌*◌, ◌^◌, length, sum_by, take}
use Rattle.ff_read.proofs.benches.count_of.Given as goal

abbrev pub invariant-loop-v : goal.invariant-loop-v
invariant-loop-v l = (l.count ≡ sum_by (λ s. length s.now) (take l.v l.viewers)) × (l.count ≤ l.v * 2 ^ 32)
