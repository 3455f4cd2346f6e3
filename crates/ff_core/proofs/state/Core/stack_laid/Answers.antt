use Rattle.std.proofs.Common.{List, length, arith, ap, sym, subst, Option, Some, Vec, Global}
use Rattle.std.specs.Prelude.{option_map}
use Rattle.ff_pages.specs.declared.pages.Pages.{Pages}
use Rattle.ff_viewer.specs.declared.commands.Question.TheVariants.{Stack}
use Rattle.ff_core.specs.States.{State, StandsFor}
use Rattle.ff_told.specs.Paged.{HavePages, KeepAllPages, AnswersLast}
use Rattle.ff_told.specs.Stacked.{IsStackTold}
use Rattle.ff_told.proofs.Kept.{AreKept, have_pages}
use Rattle.ff_core.proofs.Kept.{are_kept, pages_on}
use Rattle.ff_told.proofs.Filled.{written, stack_answers}
use Rattle.ff_core.proofs.state.Core.stack_laid.Goals as goal
use Rattle.ff_core.proofs.state.Core.stack_laid.Goals.{After-as_mut_slice, After-stack_told}

kept : (c : After-as_mut_slice) → AreKept c.args.case.now c.self.inside.budget c.self.inside.journal c.in-Some.facts c.in-Some-pages.pages.items
kept c =
    let s = subst (λ (x : State). StandsFor c.args.case.now x) (sym c.self.view_is) c.requires.stands in
    let p = ap (λ (o : Option (Vec Pages Global)). option_map (λ v. v.items) o) c.in-Some-pages.is in
    are_kept c.args.case.now _ c.in-Some.facts c.in-Some-pages.pages.items s c.in-Some.is p

pub stack_told-requires-clause-pages : goal.stack_told-requires-clause-pages
stack_told-requires-clause-pages c = let k = kept (goal.at.stack_told-requires-clause-pages c).After-as_mut_slice in
    subst (λ xs. HavePages c.args.case.now xs) (sym c.as_mut_slice.ensures.value)
    (have_pages c.args.case.now c.self.inside.budget c.self.inside.journal c.in-Some.facts c.in-Some-pages.pages.items k)

abbrev with_pages : (c : After-stack_told) → List Pages → State
with_pages c xs = record {
  journal = c.self.inside.journal;
  budget = c.self.inside.budget;
  working = option_map (λ v. v.items) c.self.inside.working;
  shown = c.self.inside.shown;
  pages = Some xs;
}

stands : (c : After-stack_told) → AreKept c.args.case.now c.self.inside.budget c.self.inside.journal c.in-Some.facts c.in-Some-pages.pages.items
    → StandsFor c.args.case.now (with_pages c c.stack_told.new.pages)
stands c k =
    let s = subst (λ (x : State). StandsFor c.args.case.now x) (sym c.self.view_is) c.requires.stands in
    pages_on c.args.case.now _ c.in-Some.facts c.in-Some-pages.pages.items c.stack_told.new.pages s c.in-Some.is k
    (subst (λ xs. KeepAllPages c.args.case.now xs c.stack_told.new.pages) c.as_mut_slice.ensures.value c.stack_told.ensures.pages)

pub returns-in_err-told-in-Some-pages-clause-stands : goal.returns-in_err-told-in-Some-pages-clause-stands
returns-in_err-told-in-Some-pages-clause-stands c =
    let r = (goal.at.returns-in_err-told-in-Some-pages-clause-stands c).After-stack_told in
    let k = kept (goal.at.returns-in_err-told-in-Some-pages-clause-stands c).After-as_mut_slice in
    let a = c.stack_told.auto.pages in
    let b = ap (λ xs. length xs) c.as_mut_slice.ensures.value in
    let o = c.in-Some-pages.pages.ok.0 in
    subst (λ xs. StandsFor c.args.case.now (with_pages r xs))
    (sym (written c.in-Some-pages.pages.len c.stack_told.new.pages c.in-Some-pages.pages.items (omega (arith, a, b, o)) (omega (arith, o)))) (stands r k)

pub returns-clause-stands : goal.returns-clause-stands
returns-clause-stands c =
    let r = (goal.at.returns-clause-stands c).After-stack_told in
    let k = kept (goal.at.returns-clause-stands c).After-as_mut_slice in
    let a = c.stack_told.auto.pages in
    let b = ap (λ xs. length xs) c.as_mut_slice.ensures.value in
    let o = c.in-Some-pages.pages.ok.0 in
    subst (λ xs. StandsFor c.args.case.now (with_pages r xs))
    (sym (written c.in-Some-pages.pages.len c.stack_told.new.pages c.in-Some-pages.pages.items (omega (arith, a, b, o)) (omega (arith, o)))) (stands r k)

pub returns-clause-answers : goal.returns-clause-answers
returns-clause-answers c =
    let k = kept (goal.at.returns-clause-answers c).After-as_mut_slice in
    subst (λ (x : State). AnswersLast c.args.case.now x.budget x.journal (Stack c.args.choice.now) c.in_ok-told-in-Some-pages.told) c.self.view_is
    (stack_answers c.args.case.now c.self.inside.budget c.self.inside.journal c.in-Some.facts c.in-Some-pages.pages.items c.args.choice.now c.in_ok-told-in-Some-pages.told k
    (subst (λ ks. IsStackTold c.args.case.now c.in-Some.facts c.in-Some-pages.pages.items ks c.in_ok-told-in-Some-pages.told) c.as_slice-list.ensures
    (subst (λ xs. IsStackTold c.args.case.now c.in-Some.facts xs c.as_slice-list.result.now c.in_ok-told-in-Some-pages.told) c.as_mut_slice.ensures.value c.in_ok-told-in-Some-pages.ensures.told)))
