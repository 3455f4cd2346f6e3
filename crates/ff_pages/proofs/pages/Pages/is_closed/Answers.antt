use Rattle.std.proofs.Common.{ℕ, false, length, subst, arith, ◌<◌, ◌-◌}
use Rattle.ff_pages.specs.Paging.{visited_of}
use Rattle.ff_pages.proofs.Paged.{is_search}
use Rattle.ff_pages.proofs.Finding.{spent_within}
use Rattle.ff_pages.proofs.Closing.{closed_by, closed_short, ended_none, ended_some, short_of, covers_one}
use Rattle.ff_pages.proofs.pages.Pages.is_closed.Goals as goal

pub overflow_sub-left : goal.overflow_sub-left
overflow_sub-left c = spent_within c.args.case.now.system.vars c.args.case.now.system.constraints c.args.self.now c.requires.stands c.spent.result (c.spent.ensures c.args.case.now.system.vars c.args.case.now.system.constraints c.requires.stands)

pub is_finished-requires : goal.is_finished-requires
is_finished-requires c = record { search = is_search c.args.case.now.system.vars c.args.case.now.system.constraints c.args.self.now c.requires.stands c.in-Some.search c.in-Some.is }

pub returns-then-left-cost : goal.returns-then-left-cost
returns-then-left-cost c = closed_short c.args.case.now.system.constraints c.args.self.now (short_of (length c.args.self.now.part.vars) (visited_of c.args.self.now) c.spent.result c.args.self.now.budget (c.spent.ensures c.args.case.now.system.vars c.args.case.now.system.constraints c.requires.stands)
    (spent_within c.args.case.now.system.vars c.args.case.now.system.constraints c.args.self.now c.requires.stands c.spent.result (c.spent.ensures c.args.case.now.system.vars c.args.case.now.system.constraints c.requires.stands))
    (subst (λ (n : ℕ). c.args.self.now.budget - c.spent.result < n) c.cost.ensures c.if-left-cost.true))

pub returns-in-Some : goal.returns-in-Some
returns-in-Some c = closed_by c.args.case.now.system.constraints c.args.self.now c.is_finished.result
    (ended_some c.args.case.now.system.vars c.args.case.now.system.constraints c.args.self.now c.requires.stands c.in-Some.search c.in-Some.is c.is_finished.result c.is_finished.ensures)
    (covers_one (length c.args.self.now.part.vars) (visited_of c.args.self.now) c.spent.result c.args.self.now.budget (c.spent.ensures c.args.case.now.system.vars c.args.case.now.system.constraints c.requires.stands)
    (spent_within c.args.case.now.system.vars c.args.case.now.system.constraints c.args.self.now c.requires.stands c.spent.result (c.spent.ensures c.args.case.now.system.vars c.args.case.now.system.constraints c.requires.stands))
    (λ l. omega (arith, l, c.cost.ensures, c.if-left-cost.false)))

pub returns-in-None : goal.returns-in-None
returns-in-None c = closed_by c.args.case.now.system.constraints c.args.self.now false (ended_none c.args.case.now.system.constraints c.args.self.now c.in-None.is)
    (covers_one (length c.args.self.now.part.vars) (visited_of c.args.self.now) c.spent.result c.args.self.now.budget (c.spent.ensures c.args.case.now.system.vars c.args.case.now.system.constraints c.requires.stands)
    (spent_within c.args.case.now.system.vars c.args.case.now.system.constraints c.args.self.now c.requires.stands c.spent.result (c.spent.ensures c.args.case.now.system.vars c.args.case.now.system.constraints c.requires.stands))
    (λ l. omega (arith, l, c.cost.ensures, c.if-left-cost.false)))
