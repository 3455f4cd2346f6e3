use Rattle.std.proofs.Common.{ℕ, ◌≡◌, ◌<◌, [], length}
use Rattle.ff_basics.specs.NumberedLists.{list_at, lists_in}
use Rattle.ff_trans.proofs.sharing.empty_all.Given as goal

abbrev pub invariant-loop-k : goal.invariant-loop-k
invariant-loop-k l = record { long : length l.lists ≡ length l.fn.lists; empty : (d : ℕ) → d < l.k → list_at (lists_in l.lists) d ≡ [] }
