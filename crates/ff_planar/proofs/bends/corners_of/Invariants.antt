use Rattle.std.proofs.Common.{◌≡◌, take}
use Rattle.ff_types.specs.Rings.{corners}
use Rattle.ff_planar.proofs.bends.corners_of.Given as goal

abbrev pub invariant-loop-v : goal.invariant-loop-v
invariant-loop-v l = l.list.items ≡ corners l.points (take l.v-index l.ring)
