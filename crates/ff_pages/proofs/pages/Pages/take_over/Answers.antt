use Rattle.ff_pages.proofs.Moved.{taken_stands}
use Rattle.ff_pages.proofs.pages.Pages.take_over.Goals as goal

pub returns-clause-stands : goal.returns-clause-stands
returns-clause-stands c = taken_stands c.args.case.now.system.vars c.args.case.now.system.constraints c.args.case.now.system.fit c.args.earlier _ c.requires.earlier
    c.requires.stands c.requires.budget c.requires.same

pub returns-clause-dropped : goal.returns-clause-dropped
returns-clause-dropped c = c.spent-dropped.ensures c.args.case.now.system.vars c.args.case.now.system.constraints c.requires.stands
