use Rattle.ff_made.proofs.Made.{made_comes, made_none}
use Rattle.ff_made.proofs.making.problem_of.Goals as goal

pub returns-clause-made : goal.returns-clause-made
returns-clause-made c = made_comes _ _ c.requires.made _ c.problem.ensures.is

pub returns-clause-refused : goal.returns-clause-refused
returns-clause-refused c = made_none _ _ c.requires.made _ c.problem.ensures.is
