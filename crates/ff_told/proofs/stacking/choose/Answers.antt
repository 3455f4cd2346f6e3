use Rattle.std.proofs.Common.{◌/◌, ◌%◌, subst}
use Rattle.ff_told.specs.Paged.{IsPageAt}
use Rattle.ff_told.specs.Stacked.{IsPicked}
use Rattle.ff_told.proofs.Choosing.{page_picks, past_stops, none_stops, unfinished_stops}
use Rattle.ff_told.proofs.stacking.choose.Goals as goal

pub returns-in-Page-clause-chosen : goal.returns-in-Page-clause-chosen
returns-in-Page-clause-chosen c = page_picks c.args.case.now c.args.pages.now c.args.part c.args.k c.in-Page.solutions c.in_ok-picked-in-Page.picked
    (subst (λ a. IsPageAt c.args.case.now c.args.pages.now c.args.part (c.args.k / 64) a) c.in-Page.is c.in_ok-answer.ensures.page)
    (subst (λ xs. IsPicked xs c.args.part (c.args.k % 64) c.in_ok-picked-in-Page.picked) c.as_slice-list.ensures c.in_ok-picked-in-Page.ensures)

pub returns-in-Past-clause-chosen : goal.returns-in-Past-clause-chosen
returns-in-Past-clause-chosen c = past_stops c.args.case.now c.args.pages.now c.args.part c.args.k c.in-Past.count
    (subst (λ a. IsPageAt c.args.case.now c.args.pages.now c.args.part (c.args.k / 64) a) c.in-Past.is c.in_ok-answer.ensures.page)

pub returns-in-None-clause-chosen : goal.returns-in-None-clause-chosen
returns-in-None-clause-chosen c = none_stops c.args.case.now c.args.pages.now c.args.part c.args.k c.in-None.field-0
    (subst (λ a. IsPageAt c.args.case.now c.args.pages.now c.args.part (c.args.k / 64) a) c.in-None.is c.in_ok-answer.ensures.page)

pub returns-clause-chosen : goal.returns-clause-chosen
returns-clause-chosen c = unfinished_stops c.args.case.now c.args.pages.now c.args.part c.args.k
    (subst (λ a. IsPageAt c.args.case.now c.args.pages.now c.args.part (c.args.k / 64) a) c.in-Unfinished.is c.in_ok-answer.ensures.page)
