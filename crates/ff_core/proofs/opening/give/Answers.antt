use Rattle.std.proofs.Common.{rules}
use Rattle.ff_tables.specs.declared.givens.GivenBy.TheVariants.{Crease}
use Rattle.ff_tables.specs.declared.orders.Order.TheVariants.{Below}
use Rattle.ff_core.proofs.Opened.{opened_kept, opened_more, read_at}
use Rattle.ff_core.proofs.opening.give.Goals as goal

pub returns-in-Some : goal.returns-in-Some
returns-in-Some c = opened_kept c.args.vars c.args.givens.now c.args.i c.args.facts.now.items (record { var = 0; value = Below; by = Crease 0 }) c.in-Some.field-0 c.requires.there c.requires.opening
    (read_at c.args.vars c.args.givens.now c.args.i c.args.facts.now.items (record { var = 0; value = Below; by = Crease 0 }) c.index.result.now c.in-Some.field-0 c.requires.there c.requires.fit c.requires.opening c.index.ensures c.in-Some.is)

pub returns-in-None : goal.returns-in-None
returns-in-None c = opened_more c.args.vars c.args.givens.now c.args.i c.args.facts.now.items (record { var = 0; value = Below; by = Crease 0 }) c.requires.there c.requires.fit c.requires.opening (search rules)
