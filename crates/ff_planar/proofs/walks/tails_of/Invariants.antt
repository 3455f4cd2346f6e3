use Rattle.std.proofs.Common.{◌≡◌, take}
use Rattle.ff_planar.specs.Orbits.{tails}
use Rattle.ff_planar.proofs.walks.tails_of.Given as goal

abbrev pub invariant-loop-d : goal.invariant-loop-d
invariant-loop-d l = l.vertices.items ≡ tails l.darts (take l.d-index l.orbit)
