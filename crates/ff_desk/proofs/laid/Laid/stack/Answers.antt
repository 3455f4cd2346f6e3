use Rattle.std.proofs.Common.{subst, ◌∙◌}
use Rattle.ff_told.specs.Stacked.{IsStackTold}
use Rattle.ff_desk.proofs.laid.Laid.stack.Goals as goal

pub returns-clause-told : goal.returns-clause-told
returns-clause-told c = subst (λ xs. IsStackTold c.args.case.now c.args.facts.now xs c.args.choice.now c.in_ok-told.told) (c.as_mut_slice.ensures.value ∙ c.self.view_is) c.in_ok-told.ensures.told
