use Rattle.std.proofs.Common.{arith}
use Rattle.ff_propagate.specs.Facts.{value_at}
use Rattle.ff_parts.proofs.Reaching.{queue_long}
use Rattle.ff_parts.proofs.labels.Labels.spread.Goals as goal

pub loop-at-smaller : goal.loop-at-smaller
loop-at-smaller c =
    let a = queue_long c.args.system.now.vars c.args.system.now.constraints (value_at c.args.facts.now)
    c.loop-at.self c.loop-at.invariant.spreading.labelling in
    omega (arith, a, c.loop-at-test.true, c.len.ensures)
