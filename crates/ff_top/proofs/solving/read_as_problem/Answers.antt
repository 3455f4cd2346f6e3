use Rattle.ff_top.proofs.Reading.{problem_made, problem_not_made}
use Rattle.ff_top.proofs.solving.read_as_problem.Goals as goal

pub returns-clause-made : goal.returns-clause-made
returns-clause-made c = problem_made _ _ c.requires.few c.requires.read _ c.problem.ensures.is

pub returns-clause-refused : goal.returns-clause-refused
returns-clause-refused c = problem_not_made _ _ c.requires.few c.requires.read _ c.problem.ensures.is
