use Rattle.std.proofs.Common.{ℕ, ◌<◌}
use Rattle.ff_types.specs.Pairs.{IsNext}
use Rattle.ff_types.proofs.pairs.are_sorted.Given as goal

abbrev pub invariant-loop-n : goal.invariant-loop-n
invariant-loop-n l = (k : ℕ) → k < l.n → IsNext l.list k
