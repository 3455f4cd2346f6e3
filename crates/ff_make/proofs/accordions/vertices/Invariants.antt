use Rattle.ff_make.specs.Accordions.{AreVertices}
use Rattle.ff_make.proofs.accordions.vertices.Given as goal

abbrev pub invariant-loop-v : goal.invariant-loop-v
invariant-loop-v l = record { so_far : AreVertices l.count l.v l.list.items }
