use Rattle.std.proofs.Common.{get_or}
use Rattle.std.proofs.lemmas.Option.{slice_get-get_or}
use Rattle.ff_told.proofs.Kept.{all_kept, page_is, pages_stand}
use Rattle.ff_told.proofs.paging.page_at.Goals as goal

pub page-requires-clause-givens : goal.page-requires-clause-givens
page-requires-clause-givens c = (pages_stand c.args.case.now c.args.pages.now c.args.i (get_or c.args.pages.now c.args.i c.index-pages-i.result)
    (slice_get-get_or c.args.pages.now c.args.i c.index-pages-i.result c.requires.there) c.requires.pages).1

pub page-requires-clause-rule : goal.page-requires-clause-rule
page-requires-clause-rule c = (pages_stand c.args.case.now c.args.pages.now c.args.i (get_or c.args.pages.now c.args.i c.index-pages-i.result)
    (slice_get-get_or c.args.pages.now c.args.i c.index-pages-i.result c.requires.there) c.requires.pages).2

pub returns-in_err-answer-clause-pages : goal.returns-in_err-answer-clause-pages
returns-in_err-answer-clause-pages c = all_kept c.args.case.now c.args.pages.now c.args.i (get_or c.args.pages.now c.args.i c.index-pages-i.result) c.page.new.self
    (slice_get-get_or c.args.pages.now c.args.i c.index-pages-i.result c.requires.there) c.page.ensures.stands c.page.ensures.same

pub returns-clause-pages : goal.returns-clause-pages
returns-clause-pages c = all_kept c.args.case.now c.args.pages.now c.args.i (get_or c.args.pages.now c.args.i c.index-pages-i.result) c.page.new.self
    (slice_get-get_or c.args.pages.now c.args.i c.index-pages-i.result c.requires.there) c.page.ensures.stands c.page.ensures.same

pub returns-clause-page : goal.returns-clause-page
returns-clause-page c = page_is c.args.case.now c.args.pages.now c.args.i c.args.k (get_or c.args.pages.now c.args.i c.index-pages-i.result) c.in_ok-answer.answer
    (slice_get-get_or c.args.pages.now c.args.i c.index-pages-i.result c.requires.there) c.in_ok-answer.ensures.page c.in_ok-answer.ensures.log
