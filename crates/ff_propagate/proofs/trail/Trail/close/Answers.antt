use Rattle.std.proofs.Common.{◌≤◌, arith, length}
use Rattle.ff_propagate.proofs.TrailSteps.{grows_trans, trail_long}
use Rattle.ff_propagate.proofs.trail.Trail.close.Goals as goal

pub loop-at-smaller : goal.loop-at-smaller
loop-at-smaller c =
    let a : length c.loop-at.self.steps.items ≤ c.args.system.now.vars = trail_long c.args.system.now.vars
    c.loop-at.self c.loop-at.invariant.0 in
    omega (arith, a, c.loop-at-test.true, c.len.ensures)

pub returns-in-Some-clause-grows : goal.returns-in-Some-clause-grows
returns-in-Some-clause-grows c = grows_trans c.args.system.now.constraints c.args.self.now c.loop-at.self
    c.follow.new.self c.loop-at.invariant.1 c.follow.ensures.grows

pub loop-at-preserved : goal.loop-at-preserved
loop-at-preserved c = (
  c.follow.ensures.trail,
  grows_trans c.args.system.now.constraints c.args.self.now c.loop-at.self c.follow.new.self
      c.loop-at.invariant.1 c.follow.ensures.grows,
  omega (arith, c.loop-at-test.true, c.len.ensures, c.follow.ensures.grows.count),
  c.in-None.ensures.ends,
)
