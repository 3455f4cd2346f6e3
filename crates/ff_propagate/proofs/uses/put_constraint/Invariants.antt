use Rattle.std.proofs.Common.{◌≡◌, length}
use Rattle.ff_basics.specs.NumberedLists.{lists_in}
use Rattle.ff_propagate.proofs.Listing.{IsPut}
use Rattle.ff_propagate.proofs.uses.put_constraint.Given as goal

abbrev pub invariant-loop-j : goal.invariant-loop-j
invariant-loop-j l = IsPut l.constraints l.terms l.c l.j (lists_in l.lists)
    × (length (lists_in l.lists) ≡ length (lists_in l.fn.lists))
