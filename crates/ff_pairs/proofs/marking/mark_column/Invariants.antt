use Rattle.ff_pairs.specs.Tables.{Adds, IsAhead}
use Rattle.ff_pairs.proofs.marking.mark_column.Given as goal

abbrev pub invariant-loop-j : goal.invariant-loop-j
invariant-loop-j l = Adds l.width l.fn.table l.table (IsAhead l.faces l.i l.j)
