use Rattle.ff_problem.proofs.OneProblem.{problem_is_one}
use Rattle.ff_problem.proofs.laws.problem_is_one.Goals as goal

pub returns : goal.returns
returns c = problem_is_one
