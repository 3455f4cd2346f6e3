use Rattle.std.proofs.Common.{◌≤◌, length}
use Rattle.ff_pairs.specs.Tables.{IsReach}
use Rattle.ff_pairs.proofs.Follows.{AreDoneTo}
use Rattle.ff_pairs.proofs.marking.mark_cell.Given as goal

abbrev pub invariant-loop-i : goal.invariant-loop-i
invariant-loop-i l = record {
  within : l.at ≤ length l.before;
  done : AreDoneTo l.width l.fn.table l.table l.before l.faces l.i;
  reach : IsReach l.width l.table l.reach;
}
