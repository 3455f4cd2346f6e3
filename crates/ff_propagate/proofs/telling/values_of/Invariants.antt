use Rattle.std.proofs.Common.{◌≡◌, ◌≤◌, map, take, length}
use Rattle.std.specs.Vec.{vec_capacity}
use Rattle.ff_propagate.specs.Facts.{seen}
use Rattle.ff_propagate.proofs.telling.values_of.Given as goal

abbrev pub invariant-loop-v : goal.invariant-loop-v
invariant-loop-v l = (l.values.items ≡ map seen (take l.v l.facts)) × (length l.facts ≤ vec_capacity l.values)
