use Rattle.std.proofs.Common.{◌≡◌, arith, length, subst}
use Rattle.ff_drawn.proofs.SeenDarts.{HasDarts, no_darts, more_there, more_back, hold_darts}
use Rattle.ff_drawn.proofs.darts.both_ways.Goals as goal

pub loop-there-init : goal.loop-there-init
loop-there-init c = rw c.in_ok-darts.ensures.items (no_darts _)

pub loop-there-preserved : goal.loop-there-preserved
loop-there-preserved c = rw c.in_ok-push.ensures.items (more_there _ _ _ _ c.loop-there.invariant c.loop-there-test.true)

pub loop-back-init : goal.loop-back-init
loop-back-init c =
    let end : c.loop-there.there-index ≡ length c.args.edges.now = omega (arith, c.loop-there-test.false, c.loop-there.auto.there-index-end) in
    subst (λ i. HasDarts c.args.edges.now i 0 c.loop-there.darts.items) end c.loop-there.invariant

pub loop-back-preserved : goal.loop-back-preserved
loop-back-preserved c = rw c.in_ok-push-2.ensures.items (more_back _ _ _ _ c.loop-back.invariant c.loop-back-test.true)

pub returns : goal.returns
returns c = hold_darts _ _ _ _ c.loop-back.invariant (omega arith) (omega arith) c.loop-back-test.false c.loop-back.auto.back-index-end
