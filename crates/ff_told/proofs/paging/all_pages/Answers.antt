use Rattle.std.proofs.Common.{◌≡◌, ◌-◌, ◌∙◌, ap, sym, subst, slice_get, Some}
use Rattle.ff_propagate.specs.Boards.{IsBoardOf}
use Rattle.ff_propagate.specs.Facts.{value_at}
use Rattle.ff_propagate.specs.Parts.{IsPart, AreParts}
use Rattle.ff_parts.specs.Lists.{vars_of}
use Rattle.ff_journal.specs.Epochs.{givens_of}
use Rattle.ff_journal.specs.Publications.{published}
use Rattle.ff_told.specs.Paged.{AreAllPages}
use Rattle.ff_told.proofs.Kept.{laid_all}
use Rattle.ff_told.proofs.paging.all_pages.Goals as goal

pub pages_of-requires-clause-board : goal.pages_of-requires-clause-board
pages_of-requires-clause-board c = subst (λ f. IsBoardOf c.args.case.now.system.vars c.args.case.now.system.constraints f) (sym (c.in_ok-kept.ensures.ok ∙ c.in_ok-copy.ensures)) c.requires.board

pub pages_of-requires-clause-each : goal.pages_of-requires-clause-each
pages_of-requires-clause-each c k part h =
    subst (λ f. IsPart c.args.case.now.system.vars c.args.case.now.system.constraints (value_at f) part.vars) (sym (c.in_ok-kept.ensures.ok ∙ c.in_ok-copy.ensures))
    (c.in_ok-found.ensures.each k part (subst (λ xs. slice_get xs k ≡ Some part) c.as_slice-list.ensures h))

pub returns-clause-pages : goal.returns-clause-pages
returns-clause-pages c =
    let vars = c.args.case.now.system.vars in
    let cons = c.args.case.now.system.constraints in
    let facts_are = c.in_ok-kept.ensures.ok ∙ c.in_ok-copy.ensures in
    let givens_are = c.in_ok-givens.ensures.ok ∙ c.in_ok-givens_of.ensures
    ∙ ap (λ n. givens_of c.args.case.now c.args.journal.now (n - 1)) (c.published-epoch.ensures.value ∙ ap (λ j. published j) c.as_slice.ensures) in
    subst (λ gs. AreAllPages c.args.case.now c.args.budget gs c.args.facts.now c.in_ok-pages.pages.items) givens_are
    (subst (λ fs. AreAllPages c.args.case.now c.args.budget c.in_ok-givens.givens.value fs c.in_ok-pages.pages.items) facts_are
    (laid_all c.args.case.now c.args.budget c.in_ok-givens.givens.value c.in_ok-kept.kept.value c.as_slice-list.result.now c.in_ok-pages.pages.items
    (subst (λ f. AreParts vars cons (value_at f) (vars_of c.as_slice-list.result.now)) (sym facts_are)
    (subst (λ xs. AreParts vars cons (value_at c.args.facts.now) (vars_of xs)) (sym c.as_slice-list.ensures) c.in_ok-found.ensures.parts))
    c.in_ok-pages.ensures.laid))
