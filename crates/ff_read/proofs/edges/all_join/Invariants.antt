use Rattle.std.proofs.Common.{◌<◌, ℕ}
use Rattle.ff_types.specs.Patterns.{Joins, edge_at}
use Rattle.ff_read.proofs.edges.all_join.Given as goal

abbrev pub invariant-loop-i : goal.invariant-loop-i
invariant-loop-i l = (e : ℕ) → e < l.i → Joins l.n (edge_at l.edges e)
