use Rattle.std.proofs.Common.{length}
use Rattle.ff_trans.specs.Rows.{IsRowTo, IsReach}
use Rattle.ff_trans.proofs.marking.mark_row.Given as goal

abbrev pub invariant-loop-x : goal.invariant-loop-x
invariant-loop-x l = record { row : IsRowTo l.cells l.list l.x l.h (length l.fn.row) l.row; reach : IsReach l.row l.reach }
