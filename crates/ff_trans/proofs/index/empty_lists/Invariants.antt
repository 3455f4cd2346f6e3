use Rattle.std.proofs.Common.{◌≡◌, ◌≤◌, [], replicate}
use Rattle.std.specs.Vec.{vec_capacity}
use Rattle.ff_basics.specs.NumberedLists.{lists_in}
use Rattle.ff_trans.proofs.index.empty_lists.Given as goal

abbrev pub invariant-loop-k : goal.invariant-loop-k
invariant-loop-k l = (lists_in l.lists.items ≡ replicate l._k []) × (l.many ≤ vec_capacity l.lists)
