use Rattle.std.proofs.Common.{◌+◌}
use Rattle.ff_lines.specs.Gathered.{AreGathered}
use Rattle.ff_lines.proofs.sweeping.sweep.Given as goal

abbrev pub invariant-loop-i : goal.invariant-loop-i
invariant-loop-i l = AreGathered l.lines l.i (l.i + 1) l.points.items l.full
