use Rattle.std.proofs.Common.{◌∙◌, ap, take, drop, ◌*◌}
use Rattle.ff_pages.proofs.Ends.{found_page, unfinished_page, last_page_same}
use Rattle.ff_pages.proofs.Begun.{givens_kept, rule_kept, log_kept}
use Rattle.ff_pages.proofs.pages.Pages.page.Goals as goal

pub returns-in_ok-read_page-in-Found-clause-page :
    goal.returns-in_ok-read_page-in-Found-clause-page
returns-in_ok-read_page-in-Found-clause-page c = found_page c.args.case.now.system.vars c.args.case.now.system.constraints c.args.self.now c.find.new.self
    c.find.ensures.same c.find.ensures.stands c.args.k c.in_ok-find.field-0 c.in-Found.is c.in_ok-find.ensures.finds c.in_ok-read_page-in-Found.field-0
    (c.in_ok-read_page-in-Found.ensures ∙ ap (λ xs. take 64 (drop (64 * c.args.k) xs)) c.as_slice.ensures.value)

pub returns-in-Spent-clause-page : goal.returns-in-Spent-clause-page
returns-in-Spent-clause-page c = unfinished_page c.args.case.now.system.vars c.args.case.now.system.constraints c.args.self.now c.find.new.self
    c.find.ensures.same c.find.ensures.stands c.args.k c.in_ok-find.field-0 c.in-Spent.is c.in_ok-find.ensures.finds

pub last_page-requires-clause-givens : goal.last_page-requires-clause-givens
last_page-requires-clause-givens c = givens_kept c.args.case.now c.args.self.now c.find.new.self c.find.ensures.same c.requires.givens

pub last_page-requires-clause-rule : goal.last_page-requires-clause-rule
last_page-requires-clause-rule c = rule_kept c.args.case.now.system.vars c.args.case.now.system.constraints c.args.self.now c.find.new.self c.find.ensures.same c.requires.rule

pub returns-in-Finished-clause-page : goal.returns-in-Finished-clause-page
returns-in-Finished-clause-page c = last_page_same c.args.case.now.system.constraints c.args.self.now c.find.new.self c.find.ensures.same c.args.k
    c.last_page.result c.last_page.ensures.page

pub returns-in-Finished-clause-log : goal.returns-in-Finished-clause-log
returns-in-Finished-clause-log c = log_kept c.args.case.now c.args.self.now c.find.new.self c.find.ensures.same c.last_page.result c.last_page.ensures.log
