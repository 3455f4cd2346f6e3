use Rattle.ff_reflect.specs.Index.{Indexes}
use Rattle.ff_reflect.proofs.index.index_of.Given as goal

abbrev pub invariant-loop-e : goal.invariant-loop-e
invariant-loop-e l = Indexes l.edges l.e l.index
