use Rattle.std.proofs.Common.{refl}
use Rattle.ff_solver.proofs.Fewer.{back_less}
use Rattle.ff_solver.proofs.Noting.{dead_noted}
use Rattle.ff_solver.proofs.refuting.Recorder.close_branch.Goals as goal

pub returns-clause-less : goal.returns-clause-less
returns-clause-less c = back_less c.args.naming.now.own.now.vars c.args.naming.now.own.now.constraints c.args.self.now.path
    c.backtrack.new.self c.requires.next.0 c.requires.path c.requires.next.1 c.backtrack.ensures.back

pub returns-clause-noted : goal.returns-clause-noted
returns-clause-noted c value down = dead_noted c.args.naming.now value c.requires.naming c.args.naming.now.own.now.vars c.args.self.now.path
    c.backtrack.new.self c.args.self.now.steps.items _ c.args.number c.requires.path c.requires.dead c.backtrack.ensures.back
    c.in_ok-push.ensures.items down
