use Rattle.std.proofs.Common.{rules, arith, get_or}
use Rattle.std.proofs.lemmas.Option.{slice_get-get_or}
use Rattle.ff_tables.specs.declared.orders.Order.TheVariants.{Below}
use Rattle.ff_tables.specs.declared.givens.GivenBy.TheVariants.{Crease}
use Rattle.ff_core.proofs.Refuted.{met_or_clash, no_fact}
use Rattle.ff_core.proofs.refuting.contradicts.Goals as goal

pub fact-requires : goal.fact-requires
fact-requires c =
    let f = c.requires.fit c.args.i (get_or c.args.givens.now c.args.i (record { var = 0; value = Below; by = Crease 0 })) (slice_get-get_or c.args.givens.now c.args.i (record { var = 0; value = Below; by = Crease 0 }) c.requires.there) in
    let w = c.requires.rule.wide in
    omega (arith, f, w)

pub returns-in-Some : goal.returns-in-Some
returns-in-Some c = met_or_clash c.args.case.now.system.vars c.args.case.now.system.constraints c.args.givens.now c.args.facts.now c.args.i (record { var = 0; value = Below; by = Crease 0 })
    c.in-Some.fact c.contradicted.result c.requires.rule c.requires.there (search rules) c.contradicted.ensures

pub returns-in-None : goal.returns-in-None
returns-in-None c = absurd (no_fact c.args.case.now.system.vars c.args.case.now.system.constraints c.args.givens.now c.args.facts.now c.args.i (record { var = 0; value = Below; by = Crease 0 })
    c.requires.rule c.requires.there (search rules))
