use Rattle.std.proofs.Common.{length}
use Rattle.ff_basics.specs.NumberedLists.{lists_in}
use Rattle.ff_trans.specs.Rows.{AreIndexed}
use Rattle.ff_trans.proofs.index.put_cells.Given as goal

abbrev pub invariant-loop-i : goal.invariant-loop-i
invariant-loop-i l = AreIndexed l.cells l.i (length l.fn.lists) (lists_in l.lists)
