use Rattle.std.proofs.Common.{ℕ, ◌≡◌, ◌+◌, length}
use Rattle.ff_basics.specs.NumberedLists.{lists_in}
use Rattle.ff_types.specs.Pairs.{pair_at}
use Rattle.ff_trans.specs.Rows.{AreFoundTo, AreShared, IsClear}
use Rattle.ff_trans.proofs.overlaps.take_pairs.Given as goal

abbrev pub invariant-loop-n : goal.invariant-loop-n
invariant-loop-n l = record {
  found : AreFoundTo l.cells l.pairs l.n 0 l.found;
  long : length l.row ≡ length l.fn.row;
  wide : length l.shared ≡ length l.fn.shared;
  shared : (m : ℕ) → m + 1 ≡ l.n → AreShared l.cells (pair_at l.pairs m).0 (length l.lists) (lists_in l.shared);
  clear : IsClear l.row;
  keeps : l.found.keeps ≡ l.fn.found.keeps;
}
