use Rattle.std.proofs.Common.{◌≡◌, ◌+◌, ◌*◌, ◌≤◌, get_or, slice_get, Some, sym, ap, ◌∙◌, subst, arith, refl}
use Rattle.std.proofs.lemmas.Option.{slice_get-get_or, slice_get_within, get_or_from_slice_get}
use Rattle.ff_pages.specs.declared.pages.Pages.{Pages}
use Rattle.ff_told.specs.Earlier.{CanKeepFor}
use Rattle.ff_told.proofs.Kept.{all_kept}
use Rattle.ff_told.proofs.Earlier.{none_taken, some_taken, ordered_set, turns_set, turns_same, turns_few, keep_self}
use Rattle.ff_told.proofs.keeping.take_one.Goals as goal

pub take_over-requires-clause-stands : goal.take_over-requires-clause-stands
take_over-requires-clause-stands c = let t = c.in-Some.ensures in
    c.requires.ordered.stand c.in-Some.i _ (slice_get-get_or c.args.pages.now c.in-Some.i c.index-pages-i.result (slice_get_within c.args.pages.now c.in-Some.i t.0 t.1))

pub take_over-requires-clause-budget : goal.take_over-requires-clause-budget
take_over-requires-clause-budget c = let t = c.in-Some.ensures in
    sym (c.requires.ordered.budgeted c.in-Some.i _ (slice_get-get_or c.args.pages.now c.in-Some.i c.index-pages-i.result (slice_get_within c.args.pages.now c.in-Some.i t.0 t.1)))

pub take_over-requires-clause-same : goal.take_over-requires-clause-same
take_over-requires-clause-same c = let t = c.in-Some.ensures in
    subst (λ x. CanKeepFor c.args.case.now.system.constraints c.args.earlier x) (sym (get_or_from_slice_get c.args.pages.now c.in-Some.i t.0 c.index-pages-i.result t.1)) t.2

pub returns-in-None-clause-pages : goal.returns-in-None-clause-pages
returns-in-None-clause-pages c = keep_self c.args.case.now c.args.pages.now

pub returns-in-None-clause-taken : goal.returns-in-None-clause-taken
returns-in-None-clause-taken c = none_taken c.args.case.now.system.constraints c.args.earlier c.args.pages.now c.in-None.ensures

pub returns-in-None-clause-turns : goal.returns-in-None-clause-turns
returns-in-None-clause-turns c = let u = c.used.ensures c.args.case.now.system.vars c.args.case.now.system.constraints c.requires.earlier in omega (arith, u)

pub returns-in-None-clause-few : goal.returns-in-None-clause-few
returns-in-None-clause-few c =
    let u = c.used.ensures c.args.case.now.system.vars c.args.case.now.system.constraints c.requires.earlier in
    let t = turns_few c.args.case.now.system.vars c.args.case.now.system.constraints c.args.earlier c.requires.earlier in omega (arith, u, t)

pub returns-in-Some-clause-pages : goal.returns-in-Some-clause-pages
returns-in-Some-clause-pages c = let t = c.in-Some.ensures in
    all_kept c.args.case.now c.args.pages.now c.in-Some.i _ c.take_over.new.self
    (slice_get-get_or c.args.pages.now c.in-Some.i c.index-pages-i.result (slice_get_within c.args.pages.now c.in-Some.i t.0 t.1))
    c.take_over.ensures.stands c.take_over.ensures.same

pub returns-in-Some-clause-ordered : goal.returns-in-Some-clause-ordered
returns-in-Some-clause-ordered c = let t = c.in-Some.ensures in
    ordered_set c.args.case.now c.args.earlier.budget c.args.pages.now c.requires.ordered c.args.earlier c.in-Some.i _ c.take_over.new.self
    (slice_get-get_or c.args.pages.now c.in-Some.i c.index-pages-i.result (slice_get_within c.args.pages.now c.in-Some.i t.0 t.1))
    c.take_over.ensures.same c.take_over.ensures.stands

pub returns-in-Some-clause-taken : goal.returns-in-Some-clause-taken
returns-in-Some-clause-taken c = let t = c.in-Some.ensures in
    some_taken c.args.case.now c.args.earlier.budget c.args.pages.now c.requires.ordered c.args.earlier c.in-Some.i _ c.take_over.new.self
    (slice_get-get_or c.args.pages.now c.in-Some.i c.index-pages-i.result (slice_get_within c.args.pages.now c.in-Some.i t.0 t.1))
    c.take_over.ensures.same c.args.case.now.system.constraints
    (subst (λ x. CanKeepFor c.args.case.now.system.constraints c.args.earlier x) (sym (get_or_from_slice_get c.args.pages.now c.in-Some.i t.0 c.index-pages-i.result t.1)) t.2)
    c.take_over.ensures.visited

pub returns-in-Some-clause-turns : goal.returns-in-Some-clause-turns
returns-in-Some-clause-turns c =
    let t = c.in-Some.ensures in
    let p = get_or c.args.pages.now c.in-Some.i c.index-pages-i.result in
    let s = turns_set c.args.pages.now c.in-Some.i p c.take_over.new.self
    (slice_get-get_or c.args.pages.now c.in-Some.i c.index-pages-i.result (slice_get_within c.args.pages.now c.in-Some.i t.0 t.1)) in
    let e = turns_same c.args.case.now.system.constraints c.args.earlier p c.take_over.new.self c.take_over.ensures.same
    (subst (λ x. CanKeepFor c.args.case.now.system.constraints c.args.earlier x) (sym (get_or_from_slice_get c.args.pages.now c.in-Some.i t.0 c.index-pages-i.result t.1)) t.2)
    c.take_over.ensures.visited in
    let d = c.take_over.ensures.dropped in omega (arith, s, e, d)

pub returns-in-Some-clause-few : goal.returns-in-Some-clause-few
returns-in-Some-clause-few c =
    let t = c.in-Some.ensures in
    let f = turns_few c.args.case.now.system.vars c.args.case.now.system.constraints _ (c.requires.ordered.stand c.in-Some.i _
    (slice_get-get_or c.args.pages.now c.in-Some.i c.index-pages-i.result (slice_get_within c.args.pages.now c.in-Some.i t.0 t.1))) in
    let d = c.take_over.ensures.dropped in omega (arith, f, d)
