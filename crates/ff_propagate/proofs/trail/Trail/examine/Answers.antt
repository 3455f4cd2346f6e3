use Rattle.std.proofs.Common.{inl, inr, arith}
use Rattle.ff_propagate.proofs.TrailSteps.{IsForcedStep, first_step, first_room, nothing_silent}
use Rattle.ff_propagate.proofs.trail.Trail.examine.Goals as goal
use Rattle.ff_propagate.proofs.trail.Trail.examine.Goals.{After-set}

pub set-requires-clause-room : goal.set-requires-clause-room
set-requires-clause-room c =
    let r = first_room c.args.system.now.vars c.args.system.now.constraints c.args.self.now c.requires.trail
    c.args.system.now.fit c.args.number c.args.con.now c.requires.con c.in-Value.var
    c.in-Value.value c.in-Value.ensures in
    omega (arith, r)

pub returns-in-Nothing-clause-rests : goal.returns-in-Nothing-clause-rests
returns-in-Nothing-clause-rests c _ = inr (nothing_silent c.args.con.now _ c.in-Nothing.ensures)

step : (c : After-set)
    → IsForcedStep c.args.system.now.vars c.args.system.now.constraints c.args.con.now c.args.self.now
    c.set.new.self
step c = first_step c.args.system.now.vars c.args.system.now.constraints c.args.self.now c.set.new.self
    c.requires.trail c.args.system.now.fit c.args.number c.args.con.now c.requires.con c.in-Value.var
    c.in-Value.value c.in-Value.ensures c.set.ensures

pub returns-in-Value-clause-trail : goal.returns-in-Value-clause-trail
returns-in-Value-clause-trail c = (step c).trail

pub returns-in-Value-clause-grows : goal.returns-in-Value-clause-grows
returns-in-Value-clause-grows c = (step c).grows

pub returns-in-Value-clause-rests : goal.returns-in-Value-clause-rests
returns-in-Value-clause-rests c _ = inl (step c).waits
