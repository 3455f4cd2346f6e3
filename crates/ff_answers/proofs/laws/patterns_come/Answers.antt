use Rattle.ff_answers.proofs.Patterns.{patterns_come}
use Rattle.ff_answers.proofs.laws.patterns_come.Goals as goal

pub returns : goal.returns
returns c = λ p refused comes. patterns_come p refused comes
