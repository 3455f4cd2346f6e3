use Rattle.std.proofs.Common.{◌≡◌, true, false, refl, sym, ap, ◌∙◌, subst, get_or, slice_get, Some}
use Rattle.std.proofs.lemmas.Option.{slice_get_read, slice_get_within, get_or_from_slice_get}
use Rattle.ff_pages.specs.declared.pages.Pages.{Pages}
use Rattle.ff_told.specs.Earlier.{NoneLeast, CanKeepFor}
use Rattle.ff_told.proofs.Earlier.{none_takes, none_else}
use Rattle.ff_told.proofs.keeping.place_of.Goals as goal

pub returns-then-is_kept : goal.returns-then-is_kept
returns-then-is_kept c =
    let at = c.in_ok-i.ensures in
    let there = slice_get_read c.args.pages.now _ _ _ refl (slice_get_within c.args.pages.now c.in_ok-i.i at.0 at.1) c.index-pages-i.is in
    (c.index-pages-i.result, there, c.is_kept.ensures.0 c.if-is_kept.true)

pub returns : goal.returns
returns c =
    let at = c.in_ok-i.ensures in
    let there = slice_get_read c.args.pages.now _ _ _ refl (slice_get_within c.args.pages.now c.in_ok-i.i at.0 at.1) c.index-pages-i.is in
    let same : c.index-pages-i.result ≡ at.0 = c.index-pages-i.is ∙ get_or_from_slice_get c.args.pages.now c.in_ok-i.i at.0 c.index-pages-i.result at.1 in
    none_else c.args.case.now c.args.earlier.now.budget c.args.pages.now c.requires.ordered c.args.case.now.system.constraints c.args.earlier.now c.in_ok-i.i
    c.index-pages-i.result there (ap (λ (x : Pages). get_or x.part.vars 0 0) same ∙ at.2 ∙ c.least.ensures)
    (λ can. no (sym (c.is_kept.ensures.1 can) ∙ c.if-is_kept.false))
  where
    no : true ≡ false → ⊥
    no e = cc
