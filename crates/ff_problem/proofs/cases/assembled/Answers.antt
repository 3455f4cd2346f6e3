use Rattle.std.proofs.Common.{refl}
use Rattle.ff_problem.proofs.Making.{fit_as, fields, is_case}
use Rattle.ff_problem.proofs.cases.assembled.Goals as goal

pub invariant_of-result : goal.invariant_of-result
invariant_of-result c = record { fit = fit_as c.requires.folded c.args.pairs c.args.list c.requires.constraints _ _ c.count-vars.ensures.value c.parts-constraints.ensures.constraints }

pub invariant_of-result-2 : goal.invariant_of-result-2
invariant_of-result-2 c = record {
  valid = fields c.requires.folded c.args.pairs c.args.list c.requires.constraints _ _ _ c.count-vars.ensures.value c.parts-constraints.ensures.constraints c.parts-constraints.ensures.cites c.requires.starts;
}

pub returns : goal.returns
returns c = is_case c.requires.folded c.args.pairs c.args.list c.requires.constraints _ refl c.parts-constraints.ensures.constraints c.parts-constraints.ensures.cites c.requires.starts
