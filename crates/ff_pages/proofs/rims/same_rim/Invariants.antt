use Rattle.ff_propagate.specs.Facts.{value_at}
use Rattle.ff_pages.proofs.Bordering.{AreSame}
use Rattle.ff_pages.proofs.rims.same_rim.Given as goal

abbrev pub invariant-loop-k : goal.invariant-loop-k
invariant-loop-k l = AreSame (value_at l.old) (value_at l.new) l.case.system.constraints l.part.vars l.part.touching l.k
