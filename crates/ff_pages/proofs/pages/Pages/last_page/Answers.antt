use Rattle.std.proofs.Common.{◌≡◌, List, [], Option, subst, sym, arith, ◌∙◌, ap, take, drop, ◌*◌}
use Rattle.ff_propagate.specs.declared.facts.Fact.{Fact}
use Rattle.ff_propagate.specs.Boards.{IsBoardOf}
use Rattle.ff_propagate.specs.Facts.{value_at}
use Rattle.ff_propagate.specs.Solutions.{solutions_of}
use Rattle.ff_pages.proofs.Ends.{last_none, last_unsolved, last_past_count, last_some, found_fits}
use Rattle.ff_pages.proofs.pages.Pages.last_page.Goals as goal

pub log_of_part-requires-clause-none : goal.log_of_part-requires-clause-none
log_of_part-requires-clause-none c = subst (λ (fs : List (Option Fact)). solutions_of c.args.case.now.system.constraints (value_at fs) c.args.self.now.part.vars ≡ [])
    (sym c.deref-then-count-eq0.ensures)
    (last_unsolved c.args.case.now.system.vars c.args.case.now.system.constraints c.args.self.now c.requires.stands c.requires.ended
    (omega (arith, c.len-count.ensures, c.if-count-eq0.true)))

pub returns-then-count-eq0-clause-page : goal.returns-then-count-eq0-clause-page
returns-then-count-eq0-clause-page c = last_none c.args.case.now.system.vars c.args.case.now.system.constraints c.args.self.now c.requires.stands c.requires.ended c.args.k
    (omega (arith, c.len-count.ensures, c.if-count-eq0.true)) c.in_ok-log.log

pub overflow_cast-result : goal.overflow_cast-result
overflow_cast-result c = let f = found_fits c.args.case.now.system.vars c.args.case.now.system.constraints c.args.self.now c.requires.stands in omega (arith, f, c.len-count.ensures)

pub returns-then-count-first-clause-page : goal.returns-then-count-first-clause-page
returns-then-count-first-clause-page c = last_past_count c.args.case.now.system.vars c.args.case.now.system.constraints c.args.self.now c.requires.stands c.requires.ended c.args.k
    c.len-count.result (omega (arith, c.len-count.ensures)) c.if-count-eq0.false c.if-count-first.true

pub returns-clause-page : goal.returns-clause-page
returns-clause-page c = last_some c.args.case.now.system.vars c.args.case.now.system.constraints c.args.self.now c.requires.stands c.requires.ended c.args.k
    (omega (arith, c.len-count.ensures, c.if-count-first.false)) c.in_ok-read_page.field-0
    (c.in_ok-read_page.ensures ∙ ap (λ xs. take 64 (drop (64 * c.args.k) xs)) c.as_slice.ensures.value)

pub log_of_part-requires-clause-board : goal.log_of_part-requires-clause-board
log_of_part-requires-clause-board c = subst (IsBoardOf c.args.case.now.system.vars c.args.case.now.system.constraints) (sym c.deref-then-count-eq0.ensures) c.requires.stands.board
