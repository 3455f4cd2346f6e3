use Rattle.ff_witness.proofs.Witnesses.{AreTested}
use Rattle.ff_witness.proofs.witness.is_witness_over.Given as goal

abbrev pub invariant-loop-k : goal.invariant-loop-k
invariant-loop-k l = AreTested l.fn.line l.fn.places l.k l.some
