use Rattle.ff_types.specs.Sheets.{sheet_of}
use Rattle.ff_edges.specs.Extents.{IsRoundFace, AreExtents}
use Rattle.ff_edges.proofs.reaches.face_extents.Given as goal

abbrev pub invariant-loop-f : goal.invariant-loop-f
invariant-loop-f l = AreExtents (IsRoundFace (sheet_of l.pattern l.faces l.folded)) l.f l.list.items
