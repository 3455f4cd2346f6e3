use Rattle.std.proofs.Common.{refl, subst, sym, List, Option}
use Rattle.ff_propagate.specs.declared.facts.Fact.{Fact}
use Rattle.ff_propagate.specs.Boards.{IsBoardOf}
use Rattle.ff_propagate.specs.Facts.{value_at}
use Rattle.ff_propagate.specs.Parts.{IsPart}
use Rattle.ff_solver.specs.Searches.{StandsAt}
use Rattle.ff_pages.proofs.Paged.{is_begun}
use Rattle.ff_pages.proofs.Begun.{none_begun, begun_stands, begun_visited}
use Rattle.ff_pages.proofs.pages.Pages.begin.Goals as goal

pub start-requires-clause-board : goal.start-requires-clause-board
start-requires-clause-board c = subst (IsBoardOf c.args.case.now.system.vars c.args.case.now.system.constraints) (sym c.deref.ensures) c.requires.stands.board

pub start-requires-clause-part : goal.start-requires-clause-part
start-requires-clause-part c = subst (λ (fs : List (Option Fact)). IsPart c.args.case.now.system.vars c.args.case.now.system.constraints (value_at fs) c.args.self.now.part.vars) (sym c.deref.ensures) c.requires.stands.part

pub returns-in_ok-start-clause-stands : goal.returns-in_ok-start-clause-stands
returns-in_ok-start-clause-stands c = begun_stands c.args.case.now.system.vars c.args.case.now.system.constraints c.args.self.now c.requires.stands c.in_ok-start.field-0
    (none_begun c.args.self.now.search c.if-is_none.ensures)
    (subst (λ (fs : List (Option Fact)). StandsAt c.args.case.now.system.constraints (value_at fs) c.in_ok-start.field-0) c.deref.ensures c.in_ok-start.ensures.stands)
    c.in_ok-start.ensures.starts

pub returns-in_ok-start-clause-visited : goal.returns-in_ok-start-clause-visited
returns-in_ok-start-clause-visited c = begun_visited c.args.self.now c.in_ok-start.field-0
    (none_begun c.args.self.now.search c.if-is_none.ensures) c.in_ok-start.ensures.starts

pub returns-in_ok-start-clause-begun : goal.returns-in_ok-start-clause-begun
returns-in_ok-start-clause-begun c = (c.in_ok-start.field-0, refl)

pub returns-else-is_none-clause-begun : goal.returns-else-is_none-clause-begun
returns-else-is_none-clause-begun c = is_begun c.args.self.now c.if-is_none.ensures
