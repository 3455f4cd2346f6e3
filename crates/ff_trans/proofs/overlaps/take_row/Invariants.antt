use Rattle.std.proofs.Common.{ℕ, ◌≡◌, ◌<◌, length, None}
use Rattle.ff_types.specs.Pairs.{pair_at}
use Rattle.ff_trans.specs.Rows.{AreFoundTo, AreSameFrom, row_at}
use Rattle.ff_trans.proofs.overlaps.take_row.Given as goal

abbrev pub invariant-loop-k : goal.invariant-loop-k
invariant-loop-k l = record {
  above : (pair_at l.pairs l.n).1 < l.k;
  long : length l.row ≡ length l.fn.row;
  same : AreSameFrom l.k l.fn.row l.row;
  low : (d : ℕ) → d < l.k → row_at l.row d ≡ None;
  found : AreFoundTo l.cells l.pairs l.n l.k l.found;
  keeps : l.found.keeps ≡ l.fn.found.keeps;
}
