use Rattle.std.proofs.Common.{◌≡◌, ◌≤◌, [], length, replicate}
use Rattle.std.specs.Vec.{vec_capacity}
use Rattle.ff_basics.specs.NumberedLists.{lists_in}
use Rattle.ff_propagate.proofs.uses.empty_lists.Given as goal

abbrev pub invariant-loop-k : goal.invariant-loop-k
invariant-loop-k l = (lists_in l.lists.items ≡ replicate l.k []) × (length l.counts ≤ vec_capacity l.lists)
