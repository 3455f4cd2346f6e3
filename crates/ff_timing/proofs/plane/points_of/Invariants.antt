use Rattle.std.specs.List.{All}
use Rattle.ff_whole.specs.Points.{IsNear}
use Rattle.ff_timing.proofs.plane.points_of.Given as goal

abbrev pub invariant-loop-n : goal.invariant-loop-n
invariant-loop-n l = All IsNear l.points.items
