use Rattle.ff_crossings.proofs.Truth.{cases_are_true}
use Rattle.ff_crossings.proofs.cases.cases_are_true.Goals as goal

pub returns : goal.returns
returns c = λ pattern faces folded h. cases_are_true h
