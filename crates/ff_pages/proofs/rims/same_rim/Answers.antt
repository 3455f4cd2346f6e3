use Rattle.std.proofs.Common.{◌<◌, ℕ, List, ◌∙◌, ap, arith, length, refl, sym, subst}
use Rattle.ff_propagate.specs.Facts.{value_at}
use Rattle.ff_pages.specs.Rims.{HasSameRim}
use Rattle.ff_pages.proofs.Bordering.{number_there, same_more, same_all, same_one}
use Rattle.ff_pages.proofs.rims.same_rim.Goals as goal

pub loop-k-preserved : goal.loop-k-preserved
loop-k-preserved c = same_more (value_at c.args.old.now) (value_at c.args.new.now) c.args.case.now.system.constraints c.args.part.now.vars c.args.part.now.touching c.loop-k.k c.index-constraints-numbers.result
    (number_there c.args.case.now.system.constraints c.args.part.now.vars c.args.part.now.touching c.as_slice-constraints.result.now c.as_slice-numbers.result.now c.requires.touching
    c.as_slice-constraints.ensures c.as_slice-numbers.ensures c.loop-k.k c.loop-k-test.true c.index-constraints-numbers.result c.index-constraints-numbers.is)
    c.loop-k.invariant
    (subst (λ (vs : List ℕ). HasSameRim (value_at c.args.old.now) (value_at c.args.new.now) vs c.index-constraints-numbers.result (length c.index-constraints-numbers.result.terms)) c.as_slice.ensures
    (c.same_beside.ensures.0 c.if-not-same_beside.false))

pub returns-then-not-same_beside : goal.returns-then-not-same_beside
returns-then-not-same_beside c = (
  λ e. cc,
  λ rim. sym c.if-not-same_beside.true ∙ c.same_beside.ensures.1
      (subst (λ (vs : List ℕ). HasSameRim (value_at c.args.old.now) (value_at c.args.new.now) vs c.index-constraints-numbers.result (length c.index-constraints-numbers.result.terms)) (sym c.as_slice.ensures)
      (same_one (value_at c.args.old.now) (value_at c.args.new.now) c.args.case.now.system.constraints c.args.part.now.vars c.args.part.now.touching c.requires.touching rim c.loop-k.k c.index-constraints-numbers.result
      (subst (λ (ns : List ℕ). c.loop-k.k < length ns) c.as_slice-numbers.ensures c.loop-k-test.true)
      (number_there c.args.case.now.system.constraints c.args.part.now.vars c.args.part.now.touching c.as_slice-constraints.result.now c.as_slice-numbers.result.now c.requires.touching
      c.as_slice-constraints.ensures c.as_slice-numbers.ensures c.loop-k.k c.loop-k-test.true c.index-constraints-numbers.result c.index-constraints-numbers.is))),
)

pub returns : goal.returns
returns c = (
  λ e. same_all (value_at c.args.old.now) (value_at c.args.new.now) c.args.case.now.system.constraints c.args.part.now.vars c.args.part.now.touching c.requires.touching
      (λ k con l at. c.loop-k.invariant k con (omega (arith, l, c.loop-k-test.false, ap length c.as_slice-numbers.ensures)) at),
  λ rim. refl,
)
