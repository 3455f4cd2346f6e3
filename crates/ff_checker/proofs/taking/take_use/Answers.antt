use Rattle.ff_checker.proofs.Fitting.{fitting}
use Rattle.ff_checker.proofs.taking.take_use.Goals as goal

pub declare-requires-clause-fitting : goal.declare-requires-clause-fitting
declare-requires-clause-fitting c = fitting c.requires.folded c.args.progress.now.held.side c.args.cite.now c.in-Some.declared c.requires.side c.in-Some.ensures
