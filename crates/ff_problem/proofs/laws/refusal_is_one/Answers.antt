use Rattle.ff_problem.proofs.OneProblem.{problems_are_not_refused, problem_refusal_is_one}
use Rattle.ff_problem.proofs.laws.refusal_is_one.Goals as goal

pub returns-clause-given : goal.returns-clause-given
returns-clause-given c = problems_are_not_refused

pub returns-clause-one : goal.returns-clause-one
returns-clause-one c = problem_refusal_is_one
