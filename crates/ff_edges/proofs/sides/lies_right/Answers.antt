use Rattle.std.proofs.Common.{arith, slice_index, sym, subst, ◌∙◌, refl, ◌≤ℤ◌, pos}
use Rattle.std.proofs.lemmas.Bool.{false≢true}
use Rattle.std.proofs.lemmas.List.{get_or_default}
use Rattle.ff_whole.specs.Points.{origin, turn}
use Rattle.ff_edges.proofs.RingSides.{right_from, right_at}
use Rattle.ff_edges.proofs.sides.lies_right.Goals as goal

pub returns-then-not-is_on_or_left : goal.returns-then-not-is_on_or_left
returns-then-not-is_on_or_left c = (
  λ t. absurd (false≢true t),
  λ t. sym c.if-not-is_on_or_left.true ∙ c.is_on_or_left.ensures.1 (subst (λ r. pos 0 ≤ℤ turn c.args.q c.args.p r) (get_or_default c.args.points.now (slice_index c.args.ring.now c.loop-i.i) origin _ (c.requires.below c.loop-i.i 0 c.loop-i-test.true)) (right_at c.args.points.now c.args.p c.args.q c.args.ring.now t c.loop-i.i c.loop-i-test.true)),
)

pub returns : goal.returns
returns c = (λ t. right_from c.args.points.now c.args.p c.args.q c.args.ring.now (λ k l. c.loop-i.invariant k (let e = c.loop-i-test.false in omega (arith, l, e))), λ t. refl)
