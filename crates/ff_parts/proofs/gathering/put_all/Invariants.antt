use Rattle.std.proofs.Common.{length}
use Rattle.ff_basics.specs.NumberedLists.{lists_in}
use Rattle.ff_parts.specs.Gathers.{Gathers}
use Rattle.ff_parts.proofs.gathering.put_all.Given as goal

abbrev pub invariant-loop-number : goal.invariant-loop-number
invariant-loop-number l = Gathers l.labels l.number (length l.fn.lists) (lists_in l.lists)
