use Rattle.ff_core.proofs.Refuted.{met_more, met_all}
use Rattle.ff_core.proofs.refuting.contradiction.Goals as goal

pub loop-i-preserved : goal.loop-i-preserved
loop-i-preserved c = met_more c.args.givens.now c.args.facts.now c.loop-i.i c.loop-i.invariant c.in-None.ensures

pub returns : goal.returns
returns c = met_all c.args.givens.now c.args.facts.now c.loop-i.i c.loop-i-test.false c.loop-i.invariant
