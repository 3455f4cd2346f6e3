use Rattle.ff_crossings.proofs.Alike.{cases_are_alike}
use Rattle.ff_crossings.proofs.cases.cases_are_alike.Goals as goal

pub returns : goal.returns
returns c = λ pattern faces folded h. cases_are_alike h
