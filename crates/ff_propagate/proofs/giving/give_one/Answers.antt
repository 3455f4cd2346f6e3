use Rattle.ff_propagate.proofs.GivenSteps.{given_step}
use Rattle.ff_propagate.proofs.giving.give_one.Goals as goal

pub returns-in-None-clause-gives : goal.returns-in-None-clause-gives
returns-in-None-clause-gives c = given_step c.args.givens.now c.args.facts.now c.args.i c.args.given
    c.requires.given c.requires.var c.in-None.is c.requires.gives
