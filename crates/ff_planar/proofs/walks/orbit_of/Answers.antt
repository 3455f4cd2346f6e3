use Rattle.std.proofs.Common.{arith, slice_index_or}
use Rattle.ff_planar.proofs.Orbits.{step, smaller}
use Rattle.ff_planar.proofs.walks.orbit_of.Goals as goal

pub loop-d-preserved : goal.loop-d-preserved
loop-d-preserved c = rw (c.in_ok-push-2.ensures.items) (step c.args.nexts.now c.args.start c.loop-d.orbit.items c.loop-d.d c.requires.table.closed c.requires.table.apart c.loop-d.invariant (omega (arith, c.loop-d-test.true)))

pub loop-d-smaller : goal.loop-d-smaller
loop-d-smaller c = smaller c.args.nexts.now c.args.start c.loop-d.orbit.items c.push-in-loop-d.new.self.items c.loop-d.d (slice_index_or c.args.nexts.now c.loop-d.d 0) (c.in_ok-push-2.ensures.items) (loop-d-preserved c)
