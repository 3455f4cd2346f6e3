use Rattle.std.proofs.Common.{refl, ◌+◌, drop, subst, slice_index_or}
use Rattle.std.proofs.lemmas.Option.{slice_get-get_or}
use Rattle.ff_propagate.specs.Facts.{value_at}
use Rattle.ff_refute.specs.Givens.{pin_claims}
use Rattle.ff_refute.specs.Telling.{IsAtSteps}
use Rattle.ff_solver.specs.declared.steps.Step.TheVariants as step
use Rattle.ff_refute.proofs.Stepping.{drop_step}
use Rattle.ff_refute.proofs.making.Maker.write_steps.Goals as goal

pub loop-i-preserved : goal.loop-i-preserved
loop-i-preserved c =
    let case = c.args.source.now.case.now in
    let pins = pin_claims case c.args.source.now.givens.now in
    let value = value_at c.args.source.now.facts.now in
    let steps = c.args.steps.now in
    let q = slice_index_or steps c.loop-i.i (step.Try 0) in
    c.in_ok-write_step.ensures pins value c.args.marks.now (drop (c.loop-i.i + 1) steps)
    (λ k by. c.requires.roots c.loop-i.i q k c.loop-i-test.true (slice_get-get_or steps c.loop-i.i (step.Try 0) c.loop-i-test.true) by)
    (subst (λ xs. IsAtSteps case pins value c.args.marks.now xs c.loop-i.self) (drop_step c.loop-i.i steps q (step.Try 0) c.loop-i-test.true refl) c.loop-i.invariant)
