use Rattle.ff_answers.proofs.Coming.{folded_patterns_come}
use Rattle.ff_answers.proofs.laws.folded_patterns_come.Goals as goal

pub returns : goal.returns
returns c = λ p faces folded h none k. folded_patterns_come h none k
