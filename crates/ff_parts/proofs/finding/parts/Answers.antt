use Rattle.std.proofs.Common.{ℕ, List, subst, sym, ap, ◌∙◌, slice_get}
use Rattle.ff_propagate.specs.Facts.{value_at}
use Rattle.ff_parts.specs.Lists.{vars_of}
use Rattle.ff_parts.specs.Factors.{FactorsFor}
use Rattle.ff_parts.proofs.Classes.{part_at}
use Rattle.ff_parts.proofs.Factoring.{parts_factor}
use Rattle.ff_parts.proofs.finding.parts.Goals as goal

pub returns-clause-each : goal.returns-clause-each
returns-clause-each c k part at = c.in_ok-found.ensures.parts.each k part.vars (part_at _ k part (ap (λ ps. slice_get ps k) (sym c.of.ensures) ∙ at))

pub returns-clause-factors : goal.returns-clause-factors
returns-clause-factors c = subst (λ (ls : List (List ℕ)). FactorsFor c.args.system.now.vars
    c.args.system.now.constraints (value_at c.args.facts.now) ls) (sym (ap vars_of c.of.ensures))
    (parts_factor c.args.system.now.vars c.args.system.now.constraints (value_at c.args.facts.now)
    (vars_of c.in_ok-found.found.items) c.args.system.now.fit c.in_ok-found.ensures.parts)
