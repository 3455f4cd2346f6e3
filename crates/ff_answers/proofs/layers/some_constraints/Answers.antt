use Rattle.ff_answers.proofs.Cites.{some_cites}
use Rattle.ff_answers.proofs.Constraints.{some_constraints}
use Rattle.ff_answers.proofs.layers.some_constraints.Goals as goal

pub returns-clause-cites : goal.returns-clause-cites
returns-clause-cites c = λ pattern faces folded h. some_cites h

pub returns-clause-terms : goal.returns-clause-terms
returns-clause-terms c = λ pattern faces folded h. some_constraints h
