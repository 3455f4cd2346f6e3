use Rattle.ff_make.proofs.OneAccordion.{accordion_is_one, some_accordion}
use Rattle.ff_make.proofs.laws.accordion_is_one.Goals as goal

pub returns-clause-one : goal.returns-clause-one
returns-clause-one c = accordion_is_one

pub returns-clause-some : goal.returns-clause-some
returns-clause-some c = some_accordion
