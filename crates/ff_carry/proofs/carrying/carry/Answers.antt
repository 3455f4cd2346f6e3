use Rattle.std.proofs.Common.{◌≡◌, ◌<◌, ◌^◌, ℕ, sym, subst, length, List, IfOk}
use Rattle.ff_tables.specs.declared.givens.Given.{Given}
use Rattle.ff_propagate.specs.Closing.{GivensFit}
use Rattle.ff_carry.specs.Ends.{CarriesTo}
use Rattle.ff_carry.specs.Placing.{IsOrder}
use Rattle.ff_carry.proofs.Carries.{have_reasons}
use Rattle.ff_carry.proofs.carrying.carry.Goals as goal

pub order_of-requires : goal.order_of-requires
order_of-requires c = c.requires.rule.wide

pub carry_in-requires-clause-wide : goal.carry_in-requires-clause-wide
carry_in-requires-clause-wide c = c.requires.rule.wide

pub carry_in-requires-clause-rule : goal.carry_in-requires-clause-rule
carry_in-requires-clause-rule c = have_reasons c.args.system.now.vars c.args.system.now.constraints c.args.old_givens.now c.args.old.now c.requires.rule

pub carry_in-requires-clause-order : goal.carry_in-requires-clause-order
carry_in-requires-clause-order c = subst (IsOrder c.args.old.now) (sym c.as_slice.ensures.value) c.in_ok-order.ensures

pub carry_in-requires-clause-givens : goal.carry_in-requires-clause-givens
carry_in-requires-clause-givens c = subst (λ (gs : List Given). GivensFit c.args.system.now.vars gs × (length gs < 2 ^ 32)) (sym c.as_slice-2.ensures) c.requires.givens

pub returns : goal.returns
returns c = subst (λ (gs : List Given). IfOk c.carry_in.result (λ r. CarriesTo c.args.system.now.vars c.args.system.now.constraints gs c.args.old.now r)) c.as_slice-2.ensures c.carry_in.ensures
