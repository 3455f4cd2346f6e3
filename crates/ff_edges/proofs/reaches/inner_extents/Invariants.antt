use Rattle.ff_types.specs.Sheets.{sheet_of}
use Rattle.ff_edges.specs.Extents.{IsRoundInner, AreExtents}
use Rattle.ff_edges.proofs.reaches.inner_extents.Given as goal

abbrev pub invariant-loop-e : goal.invariant-loop-e
invariant-loop-e l = AreExtents (IsRoundInner (sheet_of l.pattern l.faces l.folded)) l.e l.list.items
