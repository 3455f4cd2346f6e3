use Rattle.std.proofs.Common.{rules, subst, get_or, ◌<◌, length}
use Rattle.std.specs.List.Sorted.{IsBinarySearchResult, IsSearchInRange}
use Rattle.std.specs.Ordering.{nat_cmp}
use Rattle.std.proofs.lemmas.List.Sorted.{answers_always}
use Rattle.ff_pages.specs.declared.pages.Pages.{Pages}
use Rattle.ff_told.proofs.Earlier.{none_least, is_least}
use Rattle.ff_told.proofs.keeping.least_at.Goals as goal

pub returns-in-Ok : goal.returns-in-Ok
returns-in-Ok c = let o = c.requires.ordered in is_least o.0 o.1 c.args.pages.now o.2 c.args.var c.in-Ok.i
    (subst (λ r. IsSearchInRange r (length c.args.pages.now)) c.in-Ok.is c.binary_search_by_key.ensures.bound)
    (subst (λ r. IsBinarySearchResult (λ (p : Pages). nat_cmp (get_or p.part.vars 0 0) c.args.var) c.args.pages.now r) c.in-Ok.is
    (c.binary_search_by_key.ensures.position (λ (p : Pages). get_or p.part.vars 0 0) (answers_always _ _ _ (λ f a r g called. search rules))))

pub returns-in-Err : goal.returns-in-Err
returns-in-Err c = let o = c.requires.ordered in none_least o.0 o.1 c.args.pages.now o.2 c.args.var c.in-Err.field-0
    (subst (λ r. IsBinarySearchResult (λ (p : Pages). nat_cmp (get_or p.part.vars 0 0) c.args.var) c.args.pages.now r) c.in-Err.is
    (c.binary_search_by_key.ensures.position (λ (p : Pages). get_or p.part.vars 0 0) (answers_always _ _ _ (λ f a r g called. search rules))))
