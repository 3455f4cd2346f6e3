use Rattle.std.proofs.Common.{◌<◌, ◌^◌, List, length, ◌∙◌, sym, subst, arith}
use Rattle.ff_tables.specs.declared.givens.Given.{Given}
use Rattle.ff_propagate.specs.Closing.{GivensFit}
use Rattle.ff_propagate.specs.Closure.{HoldsGivens}
use Rattle.ff_propagate.specs.Facts.{value_at}
use Rattle.ff_propagate.specs.FactRule.{MeetsFactRule}
use Rattle.ff_refute.specs.Givens.{IsClash}
use Rattle.ff_journal.proofs.PinGivens.{givens_fit, givens_few}
use Rattle.ff_core.proofs.Refuted.{comes_refuted}
use Rattle.ff_core.proofs.refuting.outcome_of.Goals as goal

pub contradiction-requires-clause-few : goal.contradiction-requires-clause-few
contradiction-requires-clause-few c =
    let l = givens_few c.args.case.now c.args.journal.now c.args.epoch c.count.ensures.pairs.sorted in
    let r = c.requires.few in
    subst (λ (gs : List Given). length gs < 2 ^ 32) (sym (c.as_slice-list.ensures ∙ c.in_ok-givens.ensures)) (omega (arith, l, r))

pub contradiction-requires-clause-fit : goal.contradiction-requires-clause-fit
contradiction-requires-clause-fit c = subst (λ gs. GivensFit c.args.case.now.system.vars gs) (sym (c.as_slice-list.ensures ∙ c.in_ok-givens.ensures))
    (givens_fit c.args.case.now c.args.journal.now c.args.epoch)

pub contradiction-requires-clause-rule : goal.contradiction-requires-clause-rule
contradiction-requires-clause-rule c = subst (λ gs. MeetsFactRule c.args.case.now.system.vars c.args.case.now.system.constraints gs c.args.facts.now)
    (sym (c.as_slice-list.ensures ∙ c.in_ok-givens.ensures)) c.requires.rule

pub refuted-requires-clause-rule : goal.refuted-requires-clause-rule
refuted-requires-clause-rule c = subst (λ gs. MeetsFactRule c.args.case.now.system.vars c.args.case.now.system.constraints gs c.args.facts.now)
    (sym c.in_ok-givens.ensures) c.requires.rule

pub refuted-requires-clause-clash : goal.refuted-requires-clause-clash
refuted-requires-clause-clash c = subst (λ gs. IsClash c.args.case.now.system.constraints gs c.args.facts.now c.in-Some.at) c.as_slice-list.ensures c.in-Some.ensures

pub scanned-requires-clause-rule : goal.scanned-requires-clause-rule
scanned-requires-clause-rule c = subst (λ gs. MeetsFactRule c.args.case.now.system.vars c.args.case.now.system.constraints gs c.args.facts.now)
    (sym c.in_ok-givens.ensures) c.requires.rule

pub scanned-requires-clause-holds : goal.scanned-requires-clause-holds
scanned-requires-clause-holds c = subst (λ gs. HoldsGivens gs (value_at c.args.facts.now)) c.as_slice-list.ensures c.in-None.ensures

pub returns-in-Some : goal.returns-in-Some
returns-in-Some c = comes_refuted c.args.case.now c.args.journal.now c.args.epoch c.in_ok-givens.givens c.args.facts.now c.in-Some.at c.in_ok-outcome-in-Some.outcome
    c.in_ok-givens.ensures (subst (λ gs. IsClash c.args.case.now.system.constraints gs c.args.facts.now c.in-Some.at) c.as_slice-list.ensures c.in-Some.ensures) c.in_ok-outcome-in-Some.ensures
