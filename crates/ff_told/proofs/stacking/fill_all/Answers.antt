use Rattle.std.proofs.Common.{◌≡◌, ◌-◌, ◌<◌, ◌∙◌, length, drop, get_or, ap, sym, subst, refl, arith, slice_get, Some}
use Rattle.std.proofs.lemmas.Option.{slice_get_read}
use Rattle.ff_propagate.specs.Choices.{value_of}
use Rattle.ff_told.specs.Paged.{parts_of}
use Rattle.ff_told.specs.Stacked.{AreValues}
use Rattle.ff_told.proofs.Kept.{parts_at}
use Rattle.ff_told.proofs.Filled.{all_next}
use Rattle.ff_told.proofs.stacking.fill_all.Goals as goal
use Rattle.ff_told.proofs.stacking.fill_all.Goals.{After-as_slice}

part_there : (c : After-as_slice) → slice_get (parts_of c.args.pages.now) (length c.args.pages.now - 1 - c.loop-i.i) ≡ Some c.vars.result.now
part_there c = parts_at c.args.pages.now (length c.args.pages.now - 1 - c.loop-i.i) c.index-pages-at.result
    (slice_get_read c.args.pages.now _ _ _ refl (let l = c.loop-i-test.true in omega (arith, l)) c.index-pages-at.is) ∙ ap Some (sym c.vars.ensures)

solution_there : (c : After-as_slice) → slice_get c.args.solutions.now (length c.args.pages.now - 1 - c.loop-i.i) ≡ Some c.as_slice.result.now
solution_there c = slice_get_read c.args.solutions.now _ _ _ refl (let l = c.loop-i-test.true in let m = c.requires.as_many in omega (arith, l, m)) c.index-solutions-at.is ∙ ap Some (sym c.as_slice.ensures)

pub fill-requires-clause-as_many : goal.fill-requires-clause-as_many
fill-requires-clause-as_many c = let r = (goal.at.fill-requires-clause-as_many c).After-as_slice in
    (c.requires.fit (length c.args.pages.now - 1 - c.loop-i.i) c.vars.result.now c.as_slice.result.now (part_there r) (solution_there r)).0

pub fill-requires-clause-within : goal.fill-requires-clause-within
fill-requires-clause-within c j l = let r = (goal.at.fill-requires-clause-within c).After-as_slice in
    subst (λ n. get_or c.vars.result.now j 0 < n) (sym c.loop-i.invariant.0)
    ((c.requires.fit (length c.args.pages.now - 1 - c.loop-i.i) c.vars.result.now c.as_slice.result.now (part_there r) (solution_there r)).1 j l)

pub loop-i-preserved : goal.loop-i-preserved
loop-i-preserved c = let r = (goal.at.loop-i-preserved c).After-as_slice in (
  c.fill.ensures.long ∙ c.loop-i.invariant.0,
  λ value are. subst (λ n. AreValues (value_of value (drop n (parts_of c.args.pages.now)) (drop n c.args.solutions.now)) c.fill.new.values)
      (let l = c.loop-i-test.true in omega (arith, l))
      (all_next value (parts_of c.args.pages.now) c.args.solutions.now (length c.args.pages.now - 1 - c.loop-i.i) (length c.args.pages.now - c.loop-i.i) c.vars.result.now c.as_slice.result.now
      c.loop-i.values c.fill.new.values (part_there r) (solution_there r) (let l = c.loop-i-test.true in omega (arith, l)) c.fill.ensures.filled (c.loop-i.invariant.1 value are)),
)
