use Rattle.ff_answers.proofs.Patterns.{patterns_fold}
use Rattle.ff_answers.proofs.laws.patterns_fold.Goals as goal

pub returns : goal.returns
returns c = λ p refused folds. patterns_fold p refused folds
