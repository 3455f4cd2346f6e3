use Rattle.std.proofs.Common.{◌∙◌, refl, sym, subst, arith, length, ◌<◌, ◌-◌, slice_index}
use Rattle.std.proofs.lemmas.List.{length-set}
use Rattle.ff_near.proofs.Written.{none_put, one_put, all_put}
use Rattle.ff_near.proofs.filling.put_solution.Goals as goal

pub loop-k-init : goal.loop-k-init
loop-k-init c = record {
  within = omega arith;
  long = refl;
  has = λ known has. none_put known c.args.part.now c.args.solution.now c.args.values.now.items has;
}

pub loop-k-preserved : goal.loop-k-preserved
loop-k-preserved c =
    let l : slice_index c.args.part.now (c.loop-k.k - 1) < length c.args.values.now.items = c.requires.within (c.loop-k.k - 1) (omega (arith, c.loop-k-test.true, c.loop-k.invariant.within)) in
    record {
      within = omega (arith, c.loop-k.invariant.within);
      long = length-set _ _ _ ∙ c.loop-k.invariant.long;
      has = λ known has. one_put known c.args.part.now c.args.solution.now c.loop-k.values.items _ c.requires.as_many c.loop-k.k c.loop-k-test.true c.loop-k.invariant.within
          (subst (λ n. slice_index c.args.part.now (c.loop-k.k - 1) < n) (sym c.loop-k.invariant.long) l) (c.loop-k.invariant.has known has);
    }

pub returns-clause-has : goal.returns-clause-has
returns-clause-has c = λ known has. all_put known c.args.part.now c.args.solution.now c.loop-k.values.items c.loop-k.k c.loop-k-test.false (c.loop-k.invariant.has known has)
