use Rattle.ff_problem.proofs.Making.{problem_from, small_from}
use Rattle.ff_problem.proofs.solving.case_of_folded.Goals as goal

pub returns-clause-made : goal.returns-clause-made
returns-clause-made c = problem_from c.requires _ c.folded_case.ensures.made

pub returns-clause-small : goal.returns-clause-small
returns-clause-small c = small_from _ _ c.folded_case.ensures.made
