use Rattle.std.proofs.Common.{sym, ◌∙◌}
use Rattle.ff_journal.proofs.Explained.{told_by}
use Rattle.ff_types.specs.Pairs.{number_of}
use Rattle.ff_journal.proofs.explaining.why_told.Goals as goal

pub returns-clause-why : goal.returns-clause-why
returns-clause-why c gs before rule levels = told_by c.args.case.now gs before c.args.facts.now c.in-Some.n c.in-Some-fact.fact c.in_ok-why_of.field-0
    (number_of c.args.case.now.pairs c.args.f c.args.g) (sym c.number.ensures.value ∙ c.in-Some.is)
    (sym c.fact.ensures ∙ c.in-Some-fact.is) (c.in_ok-why_of.ensures.why gs before rule levels)
