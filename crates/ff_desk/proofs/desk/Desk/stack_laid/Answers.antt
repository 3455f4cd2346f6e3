use Rattle.std.proofs.Common.{◌≡◌, List, sym, ap, ◌∙◌, subst, Option, Some}
use Rattle.ff_types.specs.declared.cases.Case.{Case}
use Rattle.ff_types.specs.Pairs.{AreSorted}
use Rattle.ff_pages.specs.declared.pages.Pages.{Pages}
use Rattle.ff_viewer.specs.declared.commands.Question.TheVariants.{Stack}
use Rattle.ff_told.specs.Paged.{HavePages, KeepAllPages, IsPageToldAt, AnswersLast}
use Rattle.ff_told.specs.Stacked.{IsStackTold}
use Rattle.ff_told.proofs.Kept.{AreKept, have_pages, page_answers}
use Rattle.ff_told.proofs.Filled.{stack_answers}
use Rattle.ff_desk.specs.Views.{DeskView}
use Rattle.ff_desk.proofs.Laying.{are_kept, pages_on}
use Rattle.ff_desk.proofs.desk.Desk.stack_laid.Goals as goal

pub stack-requires-clause-pages : goal.stack-requires-clause-pages
stack-requires-clause-pages c = subst (λ (x : Case). HavePages x c.in-Some.pages) (sym c.case-case.ensures)
    (have_pages c.self.inside.base.case c.self.inside.base.budget c.self.inside.journal c.self.inside.facts c.in-Some.pages (are_kept _ c.in-Some.pages c.self.invariant c.in-Some.is))

pub invariant_of-self : goal.invariant_of-self
invariant_of-self c = pages_on _ c.in-Some.pages c.stack.new.self c.self.invariant c.in-Some.is
    (subst (λ (x : Case). KeepAllPages x c.in-Some.pages c.stack.new.self) c.case-case.ensures c.stack.ensures.pages)

pub invariant_of-self-2 : goal.invariant_of-self-2
invariant_of-self-2 c = pages_on _ c.in-Some.pages c.stack.new.self c.self.invariant c.in-Some.is
    (subst (λ (x : Case). KeepAllPages x c.in-Some.pages c.stack.new.self) c.case-case.ensures c.in_ok-told-in-Some.ensures.pages)

pub returns-clause-answers : goal.returns-clause-answers
returns-clause-answers c =
    let k = are_kept _ c.in-Some.pages c.self.invariant c.in-Some.is in
    let told = c.in_ok-told-in-Some.told in
    subst (λ (d : DeskView). AnswersLast d.base.case d.base.budget d.journal (Stack c.args.choice.now) told) c.self.view_is
    (stack_answers c.self.inside.base.case c.self.inside.base.budget c.self.inside.journal c.self.inside.facts c.in-Some.pages c.args.choice.now told k
    (subst (λ ks. IsStackTold c.self.inside.base.case c.self.inside.facts c.in-Some.pages ks told) c.as_slice-list.ensures
    (subst (λ (x : Case). IsStackTold x c.self.inside.facts c.in-Some.pages c.as_slice-list.result.now told) c.case-case.ensures c.in_ok-told-in-Some.ensures.told)))
