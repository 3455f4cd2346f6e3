use Rattle.std.proofs.Common.{◌*◌, ◌≤◌, length}
use Rattle.ff_types.specs.Sheets.{sheet_of}
use Rattle.ff_types.specs.declared.limits.TheConstants.{MOST_CONSTRAINTS}
use Rattle.ff_edges.specs.declared.blocks.TheConstants.{BLOCK}
use Rattle.ff_edges.specs.SharedSegments.{ArePairsTo}
use Rattle.ff_edges.proofs.along.append_row.Given as goal

abbrev pub invariant-loop-b : goal.invariant-loop-b
invariant-loop-b l = record {
  listed : ArePairsTo (sheet_of l.pattern l.faces l.folded) l.e (BLOCK * l.b) l.list.items;
  few : length l.list.items ≤ MOST_CONSTRAINTS;
}
