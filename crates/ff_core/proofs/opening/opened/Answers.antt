use Rattle.std.proofs.Common.{◌<◌, ◌^◌, ◌∙◌, ap, List, sym, subst, arith, length}
use Rattle.ff_tables.specs.declared.givens.Given.{Given}
use Rattle.ff_propagate.specs.Closing.{GivensFit}
use Rattle.ff_journal.specs.Epochs.{last_begun}
use Rattle.ff_journal.proofs.PinGivens.{givens_fit, givens_few}
use Rattle.ff_core.specs.States.{AreOpening}
use Rattle.ff_core.proofs.opening.opened.Goals as goal

pub opening-requires-clause-fit : goal.opening-requires-clause-fit
opening-requires-clause-fit c = subst (λ gs. GivensFit c.args.case.now.system.vars gs) (sym (c.as_slice-list.ensures ∙ c.in_ok-givens.ensures))
    (givens_fit c.args.case.now c.args.journal.now c.args.epoch)

pub opening-requires-clause-few : goal.opening-requires-clause-few
opening-requires-clause-few c =
    let l = givens_few c.args.case.now c.args.journal.now c.args.epoch c.count.ensures.pairs.sorted in
    let r = c.requires.few in
    subst (λ (gs : List Given). length gs < 2 ^ 32) (sym (c.as_slice-list.ensures ∙ c.in_ok-givens.ensures)) (omega (arith, l, r))

pub returns : goal.returns
returns c =
    let v = c.begun.ensures.value ∙ ap (λ j. last_begun j) c.as_slice.ensures in
    let t = c.if-begun-epoch.false in
    (omega (arith, v, t), subst (λ gs. AreOpening c.args.case.now.system.vars gs c.in_ok-facts.facts.items) (c.as_slice-list.ensures ∙ c.in_ok-givens.ensures) c.in_ok-facts.ensures)
