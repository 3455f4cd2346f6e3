use Rattle.ff_solve.proofs.NoPins.{accepted_alone, clash_of, starts_alone}
use Rattle.ff_solve.proofs.refuting.clash_log.Goals as goal

pub log_of_clash-requires-clause-givens : goal.log_of_clash-requires-clause-givens
log_of_clash-requires-clause-givens c = starts_alone c.args.case.now

pub log_of_clash-requires-clause-clash : goal.log_of_clash-requires-clause-clash
log_of_clash-requires-clause-clash c = clash_of _ _ _ _ c.requires.1

pub returns : goal.returns
returns c = accepted_alone c.args.case.now _ c.log_of_clash.ensures
