use Rattle.ff_propagate.proofs.TrailSteps.{grows_trans}
use Rattle.ff_propagate.proofs.trail.Trail.settle.Goals as goal

pub returns-in_ok-uses-in-Waiting-clause-grows : goal.returns-in_ok-uses-in-Waiting-clause-grows
returns-in_ok-uses-in-Waiting-clause-grows c = grows_trans c.args.system.now.constraints c.args.self.now
    c.passes.new.self c.close.new.self c.passes.ensures.grows c.close.ensures.grows
