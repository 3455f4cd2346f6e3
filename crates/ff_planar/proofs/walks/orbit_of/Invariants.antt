use Rattle.std.proofs.Common.{◌-◌, length}
use Rattle.ff_planar.proofs.Orbits.{OnWay}
use Rattle.ff_planar.proofs.walks.orbit_of.Given as goal

abbrev pub invariant-loop-d : goal.invariant-loop-d
invariant-loop-d l = OnWay l.nexts l.start l.orbit.items l.d

abbrev pub decreases-loop-d : goal.decreases-loop-d
decreases-loop-d l = length l.nexts - length l.orbit.items
