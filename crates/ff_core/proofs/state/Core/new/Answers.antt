use Rattle.ff_core.proofs.Ran.{new_stands}
use Rattle.ff_core.proofs.state.Core.new.Goals as goal

pub returns-clause-stands : goal.returns-clause-stands
returns-clause-stands c = new_stands c.args.case.now c.in_ok-core.core c.args.budget c.requires.turns c.in_ok-core.ensures
