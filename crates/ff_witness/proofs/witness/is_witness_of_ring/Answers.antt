use Rattle.std.proofs.Common.{subst}
use Rattle.ff_witness.specs.Witnessing.{IsWitnessOver}
use Rattle.ff_witness.proofs.Witnesses.{over_one}
use Rattle.ff_witness.proofs.witness.is_witness_of_ring.Goals as goal

pub loop-i-preserved : goal.loop-i-preserved
loop-i-preserved c = over_one c.args.points.now c.args.up c.args.ring.now c.loop-i.i c.args.places.now c.loop-i.invariant
    (subst (λ l. IsWitnessOver l c.args.places.now) c.border_of.ensures.value
    (c.is_witness_over.ensures.0 c.if-not-is_witness_over.false))
