use Rattle.ff_made.proofs.Made.{made_some}
use Rattle.ff_made.proofs.making.accordion.Goals as goal

pub returns-clause-some : goal.returns-clause-some
returns-clause-some c = made_some c.args.count _ c.make.ensures
