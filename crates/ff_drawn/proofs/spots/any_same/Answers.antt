use Rattle.std.proofs.Common.{arith}
use Rattle.ff_drawn.proofs.VertexSpots.{differ_more, none_same}
use Rattle.ff_drawn.proofs.spots.any_same.Goals as goal

pub loop-i-init : goal.loop-i-init
loop-i-init c = λ k l. absurd (omega (arith, l))

pub loop-i-preserved : goal.loop-i-preserved
loop-i-preserved c = differ_more c.args.spots.now c.loop-i.i (omega (arith, c.loop-i.auto.i)) c.loop-i.invariant (c.is_same.ensures c.if-is_same.false)

pub returns : goal.returns
returns c = λ _. none_same c.args.points.now c.args.spots.now c.requires (λ k l. c.loop-i.invariant k (omega (arith, l, c.loop-i-test.false)))
