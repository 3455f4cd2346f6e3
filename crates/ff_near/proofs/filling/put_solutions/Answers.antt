use Rattle.std.proofs.Common.{◌∙◌, refl, sym, ap, subst, arith, length, drop, ◌-◌, slice_index_or}
use Rattle.std.proofs.lemmas.Option.{slice_get_read, slice_get-get_or}
use Rattle.ff_near.specs.Weights.{AreWithin}
use Rattle.ff_near.specs.Filled.{HasValues}
use Rattle.ff_propagate.specs.Solutions.{joint}
use Rattle.ff_propagate.specs.Choices.{value_of}
use Rattle.ff_parts.specs.Lists.{vars_of}
use Rattle.ff_near.proofs.Written.{no_parts_put, one_part_put, all_parts_put}
use Rattle.ff_near.proofs.filling.put_solutions.Goals as goal

pub loop-k-init : goal.loop-k-init
loop-k-init c = record {
  within = omega arith;
  long = refl;
  has = λ known has. no_parts_put known c.args.parts.now c.args.solutions.now c.args.values.now.items has;
}

pub put_solution-requires-clause-within : goal.put_solution-requires-clause-within
put_solution-requires-clause-within c =
    let there = slice_get-get_or c.args.parts.now (c.loop-k.k - 1) c.index-parts-k.result (omega (arith, c.loop-k-test.true, c.loop-k.invariant.within)) in
    subst (λ n. AreWithin n c.as_slice.result.now) (sym c.loop-k.invariant.long)
    (subst (λ p. AreWithin (length c.args.values.now.items) p) (sym c.as_slice.ensures) (c.requires.within _ _ there))

pub put_solution-requires-clause-as_many : goal.put_solution-requires-clause-as_many
put_solution-requires-clause-as_many c =
    let there = slice_get-get_or c.args.parts.now (c.loop-k.k - 1) c.index-parts-k.result (omega (arith, c.loop-k-test.true, c.loop-k.invariant.within)) in
    let found = slice_get_read c.args.solutions.now _ _ _ refl (omega (arith, c.loop-k-test.true, c.loop-k.invariant.within, c.requires.as_many)) c.index-solutions-k.is in
    ap length c.as_slice-in-loop-k.ensures ∙ c.requires.long _ _ _ there found ∙ sym (ap length c.as_slice.ensures)

pub loop-k-preserved : goal.loop-k-preserved
loop-k-preserved c = record {
  within = omega (arith, c.loop-k.invariant.within);
  long = c.put_solution.ensures.long ∙ c.loop-k.invariant.long;
  has = λ known has. one_part_put known c.args.parts.now c.args.solutions.now c.put_solution.new.values.items c.index-parts-k.result (slice_index_or c.args.parts.now (c.loop-k.k - 1) c.index-parts-k.result) _ c.index-solutions-k.result c.requires.as_many c.loop-k.k
      c.loop-k-test.true c.loop-k.invariant.within refl c.index-solutions-k.is
      (subst (λ p. HasValues (joint (value_of known (vars_of (drop c.loop-k.k c.args.parts.now)) (drop c.loop-k.k c.args.solutions.now)) p c.index-solutions-k.result) c.put_solution.new.values.items) c.as_slice.ensures
      (subst (λ x. HasValues (joint (value_of known (vars_of (drop c.loop-k.k c.args.parts.now)) (drop c.loop-k.k c.args.solutions.now)) c.as_slice.result.now x) c.put_solution.new.values.items) c.as_slice-in-loop-k.ensures
      (c.put_solution.ensures.has _ (c.loop-k.invariant.has known has))));
}

pub returns-clause-has : goal.returns-clause-has
returns-clause-has c = λ known has. all_parts_put known c.args.parts.now c.args.solutions.now c.loop-k.values.items c.loop-k.k c.loop-k-test.false (c.loop-k.invariant.has known has)
