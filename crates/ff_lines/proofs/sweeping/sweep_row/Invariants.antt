use Rattle.ff_lines.specs.Gathered.{AreGathered}
use Rattle.ff_lines.proofs.sweeping.sweep_row.Given as goal

abbrev pub invariant-loop-j : goal.invariant-loop-j
invariant-loop-j l = AreGathered l.lines l.i l.j l.points.items l.full
