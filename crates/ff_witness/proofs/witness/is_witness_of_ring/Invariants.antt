use Rattle.ff_witness.specs.Witnessing.{IsWitnessTo}
use Rattle.ff_witness.proofs.witness.is_witness_of_ring.Given as goal

abbrev pub invariant-loop-i : goal.invariant-loop-i
invariant-loop-i l = IsWitnessTo l.fn.points l.fn.up l.fn.ring l.i l.fn.places
