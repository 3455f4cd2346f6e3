use Rattle.ff_propagate.proofs.Ruling.{stands_grows}
use Rattle.ff_propagate.proofs.laws.further_facts_keep_the_rule.Goals as goal

pub returns : goal.returns
returns c cons gs fs more grow = stands_grows cons gs fs more grow
