use Rattle.ff_pairs.specs.Tables.{Adds, IsInCells, IsReach}
use Rattle.ff_pairs.proofs.marking.mark_cells.Given as goal

abbrev pub invariant-loop-k : goal.invariant-loop-k
invariant-loop-k l = record {
  adds : Adds l.width l.fn.table l.table (IsInCells l.cells l.k);
  reach : IsReach l.width l.table l.reach;
}
