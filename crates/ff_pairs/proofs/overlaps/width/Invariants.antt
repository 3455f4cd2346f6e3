use Rattle.ff_pairs.proofs.Widths.{IsWidth}
use Rattle.ff_pairs.proofs.overlaps.width.Given as goal

abbrev pub invariant-loop-k : goal.invariant-loop-k
invariant-loop-k l = IsWidth l.cells l.k l.width
