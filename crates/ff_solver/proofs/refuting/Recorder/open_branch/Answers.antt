use Rattle.std.proofs.Common.{refl}
use Rattle.ff_solver.proofs.Fewer.{branch_less}
use Rattle.ff_solver.proofs.Noting.{tried_noted}
use Rattle.ff_solver.proofs.refuting.Recorder.open_branch.Goals as goal

pub returns-clause-less : goal.returns-clause-less
returns-clause-less c = branch_less c.args.naming.now.own.now.vars c.args.self.now.path c.args.var c.branch-self.new.self c.requires.next.0
    c.requires.next.1 c.branch-self.ensures.branched

pub returns-clause-noted : goal.returns-clause-noted
returns-clause-noted c value down = tried_noted c.args.naming.now value c.args.naming.now.own.now.vars c.args.naming.now.own.now.constraints
    c.args.self.now.path c.branch-self.new.self c.args.self.now.steps.items _ c.args.var c.requires.path c.requires.var c.requires.names
    c.branch-self.ensures.branched c.in_ok-push.ensures.items down
