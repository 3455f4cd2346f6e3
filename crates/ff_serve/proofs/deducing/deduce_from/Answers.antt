use Rattle.std.proofs.Common.{rules, ◌≡◌, ℕ, List, sym, subst}
use Rattle.ff_tables.specs.declared.givens.Given.{Given}
use Rattle.ff_core.specs.States.{AreOpening}
use Rattle.ff_serve.proofs.Deduced.{founded, begins_so}
use Rattle.ff_serve.proofs.deducing.deduce_from.Goals as goal

pub deduce-requires-clause-founded : goal.deduce-requires-clause-founded
deduce-requires-clause-founded c = founded _ _ _ _ c.requires.rule

pub deduce-requires-clause-begun : goal.deduce-requires-clause-begun
deduce-requires-clause-begun c = let o = c.requires.opened in (
  o.0,
  o.1,
  begins_so c.args.case.now.system.vars c.args.case.now.system.constraints c.args.givens.now c.args.facts.now o.0 c.requires.rule c.requires.holds
      (subst (λ (gs : List Given). AreOpening c.args.case.now.system.vars gs o.0) (sym c.requires.givens) o.2),
)
