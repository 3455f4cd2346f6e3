use Rattle.std.proofs.Common.{◌≤◌, length, arith}
use Rattle.ff_propagate.proofs.TrailSteps.{grows_trans, trail_long}
use Rattle.ff_propagate.proofs.trail.Trail.passes.Goals as goal

pub returns-in-Some-clause-grows : goal.returns-in-Some-clause-grows
returns-in-Some-clause-grows c = grows_trans c.args.system.now.constraints c.args.self.now c.passes.self
    c.pass.new.self c.passes.invariant.1 c.pass.ensures.grows

pub returns-then-len-head-clause-grows : goal.returns-then-len-head-clause-grows
returns-then-len-head-clause-grows c = grows_trans c.args.system.now.constraints c.args.self.now c.passes.self
    c.pass.new.self c.passes.invariant.1 c.pass.ensures.grows

pub passes-smaller : goal.passes-smaller
passes-smaller c =
    let a : length c.pass.new.self.steps.items ≤ c.args.system.now.vars = trail_long c.args.system.now.vars
    c.pass.new.self c.pass.ensures.trail in
    omega (arith, a, c.len.ensures, c.len-head.ensures, c.if-len-head.false)

pub passes-preserved : goal.passes-preserved
passes-preserved c = (
  c.pass.ensures.trail,
  grows_trans c.args.system.now.constraints c.args.self.now c.passes.self c.pass.new.self c.passes.invariant.1
      c.pass.ensures.grows,
)
