use Rattle.ff_lines.specs.Heads.{AreCursors, AreHeads}
use Rattle.ff_lines.proofs.cutting.heads_of.Given as goal

abbrev pub invariant-loop-i : goal.invariant-loop-i
invariant-loop-i l = AreHeads l.lines l.i l.points l.a l.heads.items × AreCursors l.lines l.i l.points l.a l.cursors.items
