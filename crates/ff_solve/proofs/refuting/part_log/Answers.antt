use Rattle.ff_solve.proofs.NoPins.{accepted_alone, starts_alone}
use Rattle.ff_solve.proofs.refuting.part_log.Goals as goal

pub log_of_part-requires-clause-givens : goal.log_of_part-requires-clause-givens
log_of_part-requires-clause-givens c = starts_alone c.args.case.now

pub returns : goal.returns
returns c = accepted_alone c.args.case.now _ c.log_of_part.ensures
