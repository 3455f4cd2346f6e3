use Rattle.std.proofs.Common.{rules, ◌≡◌, ℕ, List, length, sym, ap, ◌∙◌, subst, Option, Some}
use Rattle.ff_types.specs.declared.cases.Case.{Case}
use Rattle.ff_told.specs.Paged.{KeepAllPages}
use Rattle.ff_desk.specs.Views.{DeskView}
use Rattle.ff_desk.specs.Searched.{AllStand, SearchesIn}
use Rattle.ff_desk.specs.Steps.{SearchIs}
use Rattle.ff_desk.proofs.Laying.{pages_on}
use Rattle.ff_desk.proofs.Ahead.{all_stand, marks_long, searched}
use Rattle.ff_desk.proofs.desk.Desk.search_laid.Goals as goal

pub invariant_of-self : goal.invariant_of-self
invariant_of-self c = pages_on _ c.in-Some.pages c.search.new.self c.self.invariant c.in-Some.is
    (subst (λ (x : Case). KeepAllPages x c.in-Some.pages c.search.new.self) c.case-case.ensures c.search.ensures.pages)

pub invariant_of-self-2 : goal.invariant_of-self-2
invariant_of-self-2 c = pages_on _ c.in-Some.pages c.search.new.self c.self.invariant c.in-Some.is
    (subst (λ (x : Case). KeepAllPages x c.in-Some.pages c.search.new.self) c.case-case.ensures c.in_ok-turn-in-Some.ensures.pages)

pub returns-clause-search : goal.returns-clause-search
returns-clause-search c = subst (λ (d : DeskView). SearchIs d (record { base = c.self.inside.base; journal = c.self.inside.journal; givens = c.self.inside.givens; facts = c.self.inside.facts; home = c.self.inside.home; present = c.self.inside.present; pages = Some c.search.new.self; demanded = c.self.inside.demanded.items; earlier = c.self.inside.earlier }) c.in_ok-turn-in-Some.turn) c.self.view_is
    (searched _ c.in-Some.pages c.search.new.self c.in_ok-turn-in-Some.turn c.self.invariant c.in-Some.is
    (subst (λ ms. SearchesIn c.self.inside.base.case.system.constraints c.in-Some.pages ms c.search.new.self c.in_ok-turn-in-Some.turn) c.as_slice.ensures.value
    (subst (λ (x : Case). SearchesIn x.system.constraints c.in-Some.pages c.as_slice.result.now c.search.new.self c.in_ok-turn-in-Some.turn) c.case-case.ensures c.in_ok-turn-in-Some.ensures.search)))
