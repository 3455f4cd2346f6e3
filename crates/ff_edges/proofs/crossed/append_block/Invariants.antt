use Rattle.std.proofs.Common.{◌≤◌, length}
use Rattle.ff_types.specs.Sheets.{sheet_of}
use Rattle.ff_types.specs.declared.limits.TheConstants.{MOST_CONSTRAINTS}
use Rattle.ff_edges.specs.EdgesInside.{AreFacesTo}
use Rattle.ff_edges.proofs.crossed.append_block.Given as goal

abbrev pub invariant-loop-f : goal.invariant-loop-f
invariant-loop-f l = record {
  listed : AreFacesTo (sheet_of l.pattern l.faces l.folded) l.reach.number l.f l.list.items;
  few : length l.list.items ≤ MOST_CONSTRAINTS;
}
