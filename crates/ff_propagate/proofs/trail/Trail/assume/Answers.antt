use Rattle.std.proofs.Common.{None, arith}
use Rattle.ff_propagate.proofs.TrailSteps.{trail_room, trail_set, trail_long, same_set}
use Rattle.ff_propagate.proofs.trail.Trail.assume.Goals as goal

pub set-requires-clause-room : goal.set-requires-clause-room
set-requires-clause-room c =
    let r = trail_room c.args.vars c.args.self.now c.requires.trail c.args.var c.requires.var c.requires.open in
    omega (arith, r, c.requires.trail.room)

pub returns-clause-trail : goal.returns-clause-trail
returns-clause-trail c = trail_set c.args.vars c.args.self.now c.args.var c.args.value None c.set.new.self
    c.requires.trail c.set.ensures c.requires.var c.requires.open

pub returns-clause-within : goal.returns-clause-within
returns-clause-within c = trail_long c.args.vars c.set.new.self
    (trail_set c.args.vars c.args.self.now c.args.var c.args.value None c.set.new.self
    c.requires.trail c.set.ensures c.requires.var c.requires.open)

pub returns-clause-same : goal.returns-clause-same
returns-clause-same c = same_set c.args.self.now c.args.var c.args.value None c.set.new.self c.set.ensures
    c.requires.open
