use Rattle.std.proofs.Common.{rules}
use Rattle.ff_session.proofs.Few.{few_for_all}
use Rattle.ff_session.proofs.Made.{made_of}
use Rattle.ff_session.proofs.session.run_on.Goals as goal

pub run-requires-clause-few : goal.run-requires-clause-few
run-requires-clause-few g c = λ κs lts. few_for_all _ _ _ _ c.args.budget c.args.input.now.scripts c.requires.problem c.requires.turns c.requires.few

pub returns : goal.returns
returns g c = let l = c.epochs_are_stackings.ensures in
    made_of c.args.bytes.now c.args.budget c.args.input.now c.args.found.faces c.args.found.folded c.args.found.case
    c.requires.read c.requires.problem l.closures l.stackings l.none c.run.result c.run.ensures.legal c.run.ensures.complete
