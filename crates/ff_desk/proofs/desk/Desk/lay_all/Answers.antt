use Rattle.std.proofs.Common.{◌≡◌, ◌<◌, ◌-◌, ℕ, List, length, replicate, false, sym, ap, ◌∙◌, ◌+◌, subst, arith, Option, Some, None, rules}
use Rattle.ff_types.specs.declared.cases.Case.{Case}
use Rattle.ff_propagate.specs.Boards.{IsBoardOf}
use Rattle.ff_pages.specs.declared.pages.Pages.{Pages}
use Rattle.ff_journal.specs.Epochs.{givens_of}
use Rattle.ff_journal.specs.Publications.{published}
use Rattle.ff_told.specs.Paged.{ShowsBoard, AreAllPages, KeepAllPages}
use Rattle.ff_told.specs.Earlier.{AreAlongside, HaveTakenFrom, turns_in}
use Rattle.ff_told.proofs.Earlier.{taken_told}
use Rattle.ff_desk.specs.Views.{DeskView}
use Rattle.ff_desk.specs.Desks.{IsDesk}
use Rattle.ff_desk.specs.Steps.{AreLaidAfter, turns_of}
use Rattle.ff_desk.proofs.Counts.{few}
use Rattle.ff_desk.proofs.Laying.{facts_board, laid_keeps, ordered_both, turns_fit, room_for, turns_moved}
use Rattle.ff_desk.proofs.desk.Desk.lay_all.Goals as goal

pub all_pages-requires-clause-room : goal.all_pages-requires-clause-room
all_pages-requires-clause-room c =
    let n = (few c.self.inside.base.lengths c.self.inside.journal c.self.invariant.within c.self.invariant.order).2 in
    let t = c.self.invariant.few.commands in
    omega (arith, n, t)

pub all_pages-requires-clause-board : goal.all_pages-requires-clause-board
all_pages-requires-clause-board c = subst (λ (x : Case). IsBoardOf x.system.vars x.system.constraints c.self.inside.facts) (sym c.case.ensures)
    (facts_board _ c.self.invariant (subst (λ (d : DeskView). ShowsBoard d.journal) (sym c.self.view_is) c.requires.board))

pub move_to-requires-clause-ordered : goal.move_to-requires-clause-ordered
move_to-requires-clause-ordered c =
    let j = c.self.inside.journal in
    let list = c.in_ok-list.list.items in
    let all = subst (λ (x : Case). AreAllPages x c.budget.result (givens_of x j (published j - 1)) c.self.inside.facts list) c.case.ensures c.in_ok-list.ensures.pages in
    subst (λ l. AreAlongside c.case-case.result.now l c.self.inside.earlier.pages) (sym c.of-laid.ensures)
    (subst (λ (x : Case). AreAlongside x list c.self.inside.earlier.pages) (sym c.case-case.ensures)
    (ordered_both _ list _ c.self.invariant (ap (λ (d : DeskView). d.pages) c.self.view_is ∙ c.requires.none)
    (subst (λ n. AreAllPages c.self.inside.base.case n (givens_of c.self.inside.base.case j (published j - 1)) c.self.inside.facts list) c.budget.ensures all)))

pub move_to-requires-clause-few : goal.move_to-requires-clause-few
move_to-requires-clause-few c = (turns_fit _ c.self.invariant).1

pub move_to-requires-clause-room : goal.move_to-requires-clause-room
move_to-requires-clause-room c =
    let r = room_for _ c.in_ok-list.list.items c.self.invariant c.in_ok-list.ensures.unvisited in
    let e = ap turns_in c.of-laid.ensures in omega (arith, r, e)

pub invariant_of-self : goal.invariant_of-self
invariant_of-self c =
    let b = c.self.inside.base in
    let j = c.self.inside.journal in
    let back = sym c.self.view_is in
    let list = c.in_ok-list.list.items in
    let more = c.move_to.new.laid in
    let all = subst (λ (x : Case). AreAllPages x c.budget.result (givens_of x j (published j - 1)) c.self.inside.facts list) c.case.ensures c.in_ok-list.ensures.pages in
    laid_keeps _ list more c.in_ok-marks.marks.items c.move_to.new.self c.self.invariant (ap (λ (d : DeskView). d.pages) c.self.view_is ∙ c.requires.none)
    (subst (λ (d : DeskView). ShowsBoard d.journal) back c.requires.board)
    (subst (λ n. AreAllPages b.case n (givens_of b.case j (published j - 1)) c.self.inside.facts list) c.budget.ensures all)
    (subst (λ l. KeepAllPages b.case l more) c.of-laid.ensures (subst (λ (x : Case). KeepAllPages x c.of-laid.result more) c.case-case.ensures c.move_to.ensures.pages))
    c.in_ok-list.ensures.unvisited (search rules) c.move_to.ensures.none
    (subst (λ l. turns_in more + c.move_to.new.self.spent ≡ turns_in l + turns_in c.self.inside.earlier.pages + c.self.inside.earlier.spent) c.of-laid.ensures c.move_to.ensures.turns)

pub returns-clause-kept : goal.returns-clause-kept
returns-clause-kept c =
    let list = c.in_ok-list.list.items in
    let more = c.move_to.new.laid in
    subst (λ (d : DeskView). AreLaidAfter d.base.case.system.constraints d.earlier.pages (Some more)) c.self.view_is
    (taken_told c.self.inside.base.case.system.constraints c.self.inside.earlier.pages list more c.in_ok-list.ensures.unvisited
    (subst (λ l. HaveTakenFrom c.self.inside.base.case.system.constraints c.self.inside.earlier.pages 0 l more) c.of-laid.ensures
    (subst (λ (x : Case). HaveTakenFrom x.system.constraints c.self.inside.earlier.pages 0 c.of-laid.result more) c.case-case.ensures c.move_to.ensures.taken)))

pub returns-clause-turns : goal.returns-clause-turns
returns-clause-turns c =
    let list = c.in_ok-list.list.items in
    let more = c.move_to.new.laid in
    subst (λ (d : DeskView). c.move_to.new.self.spent + turns_in c.move_to.new.self.pages + turns_in more ≡ turns_of d) c.self.view_is
    (turns_moved c.self.inside.earlier c.move_to.new.self c.self.inside.pages list more (ap (λ (d : DeskView). d.pages) c.self.view_is ∙ c.requires.none) c.in_ok-list.ensures.unvisited c.move_to.ensures.none
    (subst (λ l. turns_in more + c.move_to.new.self.spent ≡ turns_in l + turns_in c.self.inside.earlier.pages + c.self.inside.earlier.spent) c.of-laid.ensures c.move_to.ensures.turns))
