use Rattle.std.proofs.Common.{rules}
use Rattle.ff_planar.proofs.FilledSides.{fill_none, fill_more, fill_all}
use Rattle.ff_planar.proofs.traces.fill.Goals as goal

pub loop-d-init : goal.loop-d-init
loop-d-init c = fill_none _ _ _

pub loop-d-preserved : goal.loop-d-preserved
loop-d-preserved c = fill_more c.args.sides.now c.args.orbit.now c.loop-d.d-index c.args.side c.loop-d.sides c.loop-d.invariant (search rules)

pub returns : goal.returns
returns c = fill_all _ _ _ _ _ c.loop-d.invariant c.loop-d-test.false c.loop-d.auto.d-index-end
