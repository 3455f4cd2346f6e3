use Rattle.std.proofs.Common.{◌+◌}
use Rattle.ff_lines.specs.Heads.{AreCursors, AreEdgesTo}
use Rattle.ff_lines.proofs.cutting.edges_of.Given as goal

abbrev pub invariant-loop-a : goal.invariant-loop-a
invariant-loop-a l = AreEdgesTo l.lines l.points l.a (l.a + 1) l.drawn.edges.items l.drawn.marks.items × AreCursors l.lines 0 l.points l.a l.cursors.items
