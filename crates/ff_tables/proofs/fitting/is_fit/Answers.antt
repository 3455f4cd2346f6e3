use Rattle.std.proofs.Common.{◌∙◌}
use Rattle.ff_tables.proofs.Fits.{fit_from}
use Rattle.ff_tables.proofs.fitting.is_fit.Goals as goal

pub returns-clause-holds : goal.returns-clause-holds
returns-clause-holds c h = fit_from c.args.vars c.args.con.now c.as_slice-terms.result.now
    c.as_slice-terms.ensures.value (c.if-terms-terms_of.false ∙ c.terms_of.ensures)
    (c.are_within.ensures.holds c.if-not-are_within.false) (c.all_differ.ensures.holds h)
