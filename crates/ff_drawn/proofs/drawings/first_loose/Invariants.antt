use Rattle.std.proofs.Common.{ℕ, ◌<◌}
use Rattle.ff_types.specs.Drawings.{HasTwoEdges}
use Rattle.ff_drawn.proofs.drawings.first_loose.Given as goal

abbrev pub invariant-loop-v : goal.invariant-loop-v
invariant-loop-v l = (k : ℕ) → k < l.v → HasTwoEdges l.edges k
