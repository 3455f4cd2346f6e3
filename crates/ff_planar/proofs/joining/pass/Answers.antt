use Rattle.std.proofs.Common.{◌<◌, inl, inr, sym, subst}
use Rattle.ff_planar.proofs.ReachedFaces.{pass_grown, pass_still}
use Rattle.ff_planar.proofs.joining.pass.Goals as goal
use Rattle.ff_planar.proofs.joining.pass.Goals.{then-step, else-step}

pub step-requires-clause-left : goal.step-requires-clause-left
step-requires-clause-left c = λ f e. subst (λ n. f < n) (sym c.loop-e.invariant.as_many) (c.requires c.loop-e.e f c.loop-e-test.true (inl e))

pub step-requires-clause-right : goal.step-requires-clause-right
step-requires-clause-right c = λ f e. subst (λ n. f < n) (sym c.loop-e.invariant.as_many) (c.requires c.loop-e.e f c.loop-e-test.true (inr e))

pub loop-e-preserved : goal.loop-e-preserved
loop-e-preserved c =
    elim c.if-step.branch [
      | then-step w ↦ rw w.grown-is (pass_grown c.args.sides.now c.loop-e.e c.loop-e-test.true c.args.reached.now c.loop-e.reached c.step.new.reached c.loop-e.grown c.loop-e.invariant w.if-step.ensures)
      | else-step w ↦ rw w.grown-is (pass_still c.args.sides.now c.loop-e.e c.loop-e-test.true c.args.reached.now c.loop-e.reached c.step.new.reached c.loop-e.grown c.loop-e.invariant w.if-step.ensures)
    ]
