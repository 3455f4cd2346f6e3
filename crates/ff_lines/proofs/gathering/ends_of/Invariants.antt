use Rattle.ff_lines.specs.Gathered.{AreEndsOf}
use Rattle.ff_lines.proofs.gathering.ends_of.Given as goal

abbrev pub invariant-loop-i : goal.invariant-loop-i
invariant-loop-i l = AreEndsOf l.lines l.i l.points.items
