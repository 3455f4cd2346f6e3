use Rattle.ff_edges.specs.Ways.{is_on_way}
use Rattle.ff_witness.proofs.OnEdges.{AllTo}
use Rattle.ff_witness.proofs.edges.are_on.Given as goal

abbrev pub invariant-loop-k : goal.invariant-loop-k
invariant-loop-k l = AllTo (is_on_way l.p l.q) l.fn.places l.k
