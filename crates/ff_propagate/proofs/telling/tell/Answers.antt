use Rattle.std.proofs.Common.{◌≤◌, length, arith}
use Rattle.ff_propagate.proofs.TrailSteps.{trail_long}
use Rattle.ff_propagate.proofs.telling.tell.Goals as goal

pub overflow_cast-number-end : goal.overflow_cast-number-end
overflow_cast-number-end c =
    let a : length c.args.trail.now.steps.items ≤ c.args.system.now.vars = trail_long c.args.system.now.vars
    c.args.trail.now c.requires.trail in
    omega (arith, a, c.requires.trail.few, c.len-number-end.ensures)
