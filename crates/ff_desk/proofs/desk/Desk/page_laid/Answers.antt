use Rattle.std.proofs.Common.{◌≡◌, List, sym, ap, ◌∙◌, subst, Option, Some}
use Rattle.ff_types.specs.declared.cases.Case.{Case}
use Rattle.ff_types.specs.Pairs.{AreSorted}
use Rattle.ff_pages.specs.declared.pages.Pages.{Pages}
use Rattle.ff_viewer.specs.declared.commands.Question.TheVariants.{Page}
use Rattle.ff_told.specs.Paged.{HavePages, KeepAllPages, IsPageToldAt, AnswersLast}
use Rattle.ff_told.specs.Stacked.{IsStackTold}
use Rattle.ff_told.proofs.Kept.{AreKept, have_pages, page_answers}
use Rattle.ff_told.proofs.Filled.{stack_answers}
use Rattle.ff_desk.specs.Views.{DeskView}
use Rattle.ff_desk.proofs.Laying.{are_kept, pages_on}
use Rattle.ff_desk.proofs.desk.Desk.page_laid.Goals as goal

pub page-requires-clause-pages : goal.page-requires-clause-pages
page-requires-clause-pages c = subst (λ (x : Case). HavePages x c.in-Some.pages) (sym c.case-case.ensures)
    (have_pages c.self.inside.base.case c.self.inside.base.budget c.self.inside.journal c.self.inside.facts c.in-Some.pages (are_kept _ c.in-Some.pages c.self.invariant c.in-Some.is))

pub invariant_of-self : goal.invariant_of-self
invariant_of-self c = pages_on _ c.in-Some.pages c.page.new.self c.self.invariant c.in-Some.is
    (subst (λ (x : Case). KeepAllPages x c.in-Some.pages c.page.new.self) c.case-case.ensures c.page.ensures.pages)

pub invariant_of-self-2 : goal.invariant_of-self-2
invariant_of-self-2 c = pages_on _ c.in-Some.pages c.page.new.self c.self.invariant c.in-Some.is
    (subst (λ (x : Case). KeepAllPages x c.in-Some.pages c.page.new.self) c.case-case.ensures c.in_ok-told-in-Some.ensures.pages)

pub returns-clause-answers : goal.returns-clause-answers
returns-clause-answers c =
    let k = are_kept _ c.in-Some.pages c.self.invariant c.in-Some.is in
    let told = c.in_ok-told-in-Some.told in
    let sorted = subst (λ (x : Case). AreSorted x.pairs) c.case-case.ensures c.count.ensures.pairs.sorted in
    subst (λ (d : DeskView). AnswersLast d.base.case d.base.budget d.journal (Page c.args.part c.args.page) told) c.self.view_is
    (page_answers c.self.inside.base.case c.self.inside.base.budget c.self.inside.journal c.self.inside.facts c.in-Some.pages c.args.part c.args.page told sorted k
    (subst (λ (x : Case). IsPageToldAt x c.in-Some.pages c.args.part c.args.page told) c.case-case.ensures c.in_ok-told-in-Some.ensures.told))
