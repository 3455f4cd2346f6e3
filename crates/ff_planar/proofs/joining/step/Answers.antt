use Rattle.std.proofs.Common.{sym, ◌∙◌}
use Rattle.ff_planar.proofs.ReachedFaces.{step_right, step_left, step_none}
use Rattle.ff_planar.proofs.joining.step.Goals as goal

pub returns-then-reached-g : goal.returns-then-reached-g
returns-then-reached-g c = rw (c.in-Some.is, c.in-Some-right.is) (step_none _ _ _ (c.if-reached-f.true ∙ sym c.if-reached-g.true))

pub returns-then-reached-f : goal.returns-then-reached-f
returns-then-reached-f c = rw (c.in-Some.is, c.in-Some-right.is) (step_right c.args.reached.now c.in-Some.f c.in-Some-right.g (c.requires.right c.in-Some-right.g c.in-Some-right.is) c.if-reached-f.true c.if-reached-g.false)

pub returns : goal.returns
returns c = rw (c.in-Some.is, c.in-Some-right.is) (step_left c.args.reached.now c.in-Some.f c.in-Some-right.g (c.requires.left c.in-Some.f c.in-Some.is) c.if-not-reached-g.false c.if-reached-f.false)
