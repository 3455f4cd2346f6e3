use Rattle.ff_told.proofs.Refuted.{are_givens}
use Rattle.ff_core.proofs.Refuted.{epoch_refuted}
use Rattle.ff_core.proofs.refuting.refuted.Goals as goal

pub refutation-requires-clause-givens : goal.refutation-requires-clause-givens
refutation-requires-clause-givens c = are_givens c.args.case.now c.args.journal.now c.args.epoch c.args.givens.now c.requires.givens

pub returns : goal.returns
returns c = epoch_refuted c.args.case.now c.args.journal.now c.args.epoch c.args.givens.now c.in_ok-outcome.outcome c.count.ensures.pairs.sorted c.requires.givens c.in_ok-outcome.ensures
