use Rattle.std.proofs.Common.{◌≡◌, length}
use Rattle.ff_basics.specs.NumberedLists.{lists_in}
use Rattle.ff_propagate.specs.Uses.{AreListed}
use Rattle.ff_propagate.proofs.uses.put_all.Given as goal

abbrev pub invariant-loop-c : goal.invariant-loop-c
invariant-loop-c l = AreListed l.constraints l.c (lists_in l.lists) × (length l.lists ≡ length l.fn.lists)
