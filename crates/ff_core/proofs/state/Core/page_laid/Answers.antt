use Rattle.std.proofs.Common.{◌≡◌, List, length, arith, ap, sym, subst, Option, Some, Vec, Global}
use Rattle.std.specs.Prelude.{option_map}
use Rattle.ff_propagate.specs.declared.facts.Fact.{Fact}
use Rattle.ff_pages.specs.declared.pages.Pages.{Pages}
use Rattle.ff_viewer.specs.declared.commands.Question.TheVariants.{Page}
use Rattle.ff_core.specs.States.{State, StandsFor}
use Rattle.ff_told.specs.Paged.{HavePages, KeepAllPages, IsPageToldAt, AnswersLast}
use Rattle.ff_told.proofs.Kept.{AreKept, have_pages, page_answers}
use Rattle.ff_core.proofs.Kept.{are_kept, shown_some, pages_on}
use Rattle.ff_told.proofs.Filled.{written}
use Rattle.ff_core.proofs.state.Core.page_laid.Goals as goal
use Rattle.ff_core.proofs.state.Core.page_laid.Goals.{After-as_mut_slice, After-page_told}

kept : (c : After-as_mut_slice) → (fs : List (Option Fact)) × (c.self.inside.shown ≡ Some fs)
    × AreKept c.args.case.now c.self.inside.budget c.self.inside.journal fs c.in-Some.pages.items
kept c =
    let s = subst (λ (x : State). StandsFor c.args.case.now x) (sym c.self.view_is) c.requires.stands in
    let p = ap (λ (o : Option (Vec Pages Global)). option_map (λ v. v.items) o) c.in-Some.is in
    let r = shown_some c.args.case.now _ c.in-Some.pages.items s p in
    (r.0, r.1, are_kept c.args.case.now _ r.0 c.in-Some.pages.items s r.1 p)

pub page_told-requires-clause-pages : goal.page_told-requires-clause-pages
page_told-requires-clause-pages c = let k = kept (goal.at.page_told-requires-clause-pages c).After-as_mut_slice in
    subst (λ xs. HavePages c.args.case.now xs) (sym c.as_mut_slice.ensures.value)
    (have_pages c.args.case.now c.self.inside.budget c.self.inside.journal k.0 c.in-Some.pages.items k.2)

abbrev with_pages : (c : After-page_told) → List Pages → State
with_pages c xs = record {
  journal = c.self.inside.journal;
  budget = c.self.inside.budget;
  working = option_map (λ v. v.items) c.self.inside.working;
  shown = c.self.inside.shown;
  pages = Some xs;
}

stands : (c : After-page_told) → (fs : List (Option Fact)) × (c.self.inside.shown ≡ Some fs)
    × AreKept c.args.case.now c.self.inside.budget c.self.inside.journal fs c.in-Some.pages.items → StandsFor c.args.case.now (with_pages c c.page_told.new.pages)
stands c k =
    let s = subst (λ (x : State). StandsFor c.args.case.now x) (sym c.self.view_is) c.requires.stands in
    pages_on c.args.case.now _ k.0 c.in-Some.pages.items c.page_told.new.pages s k.1 k.2
    (subst (λ xs. KeepAllPages c.args.case.now xs c.page_told.new.pages) c.as_mut_slice.ensures.value c.page_told.ensures.pages)

pub returns-in_err-told-in-Some-clause-stands : goal.returns-in_err-told-in-Some-clause-stands
returns-in_err-told-in-Some-clause-stands c =
    let r = (goal.at.returns-in_err-told-in-Some-clause-stands c).After-page_told in
    let k = kept (goal.at.returns-in_err-told-in-Some-clause-stands c).After-as_mut_slice in
    let a = c.page_told.auto.pages in
    let b = ap (λ xs. length xs) c.as_mut_slice.ensures.value in
    let o = c.in-Some.pages.ok.0 in
    subst (λ xs. StandsFor c.args.case.now (with_pages r xs))
    (sym (written c.in-Some.pages.len c.page_told.new.pages c.in-Some.pages.items (omega (arith, a, b, o)) (omega (arith, o)))) (stands r k)

pub returns-clause-stands : goal.returns-clause-stands
returns-clause-stands c =
    let r = (goal.at.returns-clause-stands c).After-page_told in
    let k = kept (goal.at.returns-clause-stands c).After-as_mut_slice in
    let a = c.page_told.auto.pages in
    let b = ap (λ xs. length xs) c.as_mut_slice.ensures.value in
    let o = c.in-Some.pages.ok.0 in
    subst (λ xs. StandsFor c.args.case.now (with_pages r xs))
    (sym (written c.in-Some.pages.len c.page_told.new.pages c.in-Some.pages.items (omega (arith, a, b, o)) (omega (arith, o)))) (stands r k)

pub returns-clause-answers : goal.returns-clause-answers
returns-clause-answers c =
    let k = kept (goal.at.returns-clause-answers c).After-as_mut_slice in
    subst (λ (x : State). AnswersLast c.args.case.now x.budget x.journal (Page c.args.part c.args.page) c.in_ok-told-in-Some.told) c.self.view_is
    (page_answers c.args.case.now c.self.inside.budget c.self.inside.journal k.0 c.in-Some.pages.items c.args.part c.args.page c.in_ok-told-in-Some.told c.count.ensures.pairs.sorted k.2
    (subst (λ xs. IsPageToldAt c.args.case.now xs c.args.part c.args.page c.in_ok-told-in-Some.told) c.as_mut_slice.ensures.value c.in_ok-told-in-Some.ensures.told))
