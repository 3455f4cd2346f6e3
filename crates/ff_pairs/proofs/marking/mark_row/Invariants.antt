use Rattle.std.proofs.Common.{◌<◌, ◌≤◌, length}
use Rattle.ff_pairs.specs.Tables.{Adds, IsBehind}
use Rattle.ff_pairs.proofs.marking.mark_row.Given as goal

abbrev pub invariant-loop-j : goal.invariant-loop-j
invariant-loop-j l = record { adds : Adds l.width l.fn.table l.table (IsBehind l.faces l.i l.j); after : l.i < l.j; within : l.j ≤ length l.faces }
