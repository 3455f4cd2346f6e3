use Rattle.std.proofs.Common.{◌≡◌, take}
use Rattle.ff_propagate.specs.Facts.{value_at}
use Rattle.ff_near.specs.Distance.{share}
use Rattle.ff_near.proofs.counting.decided.Given as goal

abbrev pub invariant-loop-i : goal.invariant-loop-i
invariant-loop-i l = l.count ≡ share l.case.pairs (take l.i l.list) (value_at l.facts)
