use Rattle.ff_lines.specs.Heads.{AreEdgesTo}
use Rattle.ff_lines.proofs.cutting.push_heads.Given as goal

abbrev pub invariant-loop-b : goal.invariant-loop-b
invariant-loop-b l = AreEdgesTo l.lines l.points l.a l.b l.drawn.edges.items l.drawn.marks.items
