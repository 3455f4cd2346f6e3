use Rattle.std.proofs.Common.{arith, refl, subst, sym, ◌∙◌, []}
use Rattle.std.proofs.lemmas.Option.{get_or_from_slice_get, slice_get_read}
use Rattle.ff_basics.proofs.Tests.{not_false}
use Rattle.ff_types.specs.Faces.{ring_at}
use Rattle.ff_orders.specs.Given.{IsTurn}
use Rattle.ff_orders.proofs.Loops.{none_further}
use Rattle.ff_orders.proofs.rings.face_of.Goals as goal

pub loop-f-preserved : goal.loop-f-preserved
loop-f-preserved c = none_further (λ f. IsTurn (ring_at c.args.rings.now f) c.args.list.now) c.loop-f.f c.loop-f.invariant
    (λ turn. not_false _ c.if-is_turn.false (c.is_turn.ensures.1 (subst (λ r. IsTurn r c.args.list.now)
    (get_or_from_slice_get c.args.rings.now c.loop-f.f _ [] (slice_get_read c.args.rings.now _ _ _ refl c.loop-f-test.true c.index-rings-f.is) ∙ sym c.as_slice.ensures) turn)))

pub returns : goal.returns
returns c = λ f is. c.loop-f.invariant f (let w = is.within in omega (arith, w, c.loop-f-test.false)) is.turn
