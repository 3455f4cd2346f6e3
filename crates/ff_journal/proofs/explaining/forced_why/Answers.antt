use Rattle.std.proofs.Common.{refl, map}
use Rattle.ff_journal.proofs.Explained.{explained_at}
use Rattle.ff_journal.proofs.Levels.{premises_fit}
use Rattle.ff_journal.proofs.explaining.forced_why.Goals as goal

pub returns-clause-why : goal.returns-clause-why
returns-clause-why c gs before rule levels = explained_at c.args.case.now gs before c.args.facts.now c.args.var c.args.fact c.args.c c.as_slice-constraints.result.now
    c.index-constraints-c.result c.as_slice-cites.result.now _ c.in_ok-premises.premises c.as_slice-constraints.ensures c.as_slice-cites.ensures
    c.count.ensures.pairs.sorted rule levels c.requires.there c.requires.forced c.index-constraints-c.is c.in_ok-premises.ensures

pub returns-clause-names : goal.returns-clause-names
returns-clause-names c = let r = c.requires.rule in (
  (c.args.fact, c.requires.there, refl),
  premises_fit c.args.case.now r.0 c.args.facts.now c.args.fact.level c.args.var (map (λ t. t.var) c.index-constraints-c.result.terms)
      c.in_ok-premises.premises c.count.ensures.pairs.sorted r.1 c.in_ok-premises.ensures,
)
