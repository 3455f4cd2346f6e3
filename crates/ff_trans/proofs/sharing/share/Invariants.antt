use Rattle.std.proofs.Common.{◌≤◌, length}
use Rattle.ff_basics.specs.NumberedLists.{lists_in}
use Rattle.ff_trans.specs.Rows.{AreSharedTo}
use Rattle.ff_trans.proofs.sharing.share.Given as goal

abbrev pub invariant-loop-x : goal.invariant-loop-x
invariant-loop-x l = record { shared : AreSharedTo l.cells l.list l.x l.f (length l.fn.lists) (lists_in l.lists); within : l.x ≤ length l.list }
