use Rattle.ff_make.specs.Accordions.{AreEdges}
use Rattle.ff_make.proofs.accordions.edges.Given as goal

abbrev pub invariant-loop-e : goal.invariant-loop-e
invariant-loop-e l = record { so_far : AreEdges l.count l.e l.list.items }
