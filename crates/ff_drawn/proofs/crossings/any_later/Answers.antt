use Rattle.std.proofs.Common.{arith, length}
use borrow.Author.Count.{below_more}
use Rattle.ff_drawn.specs.Extents.{CrossesNone}
use Rattle.ff_drawn.proofs.EdgeExtents.{none_cross}
use Rattle.ff_drawn.proofs.crossings.any_later.Goals as goal

pub loop-i-preserved : goal.loop-i-preserved
loop-i-preserved c = below_more (λ k. CrossesNone c.args.points.now c.args.edges.now c.args.list.now k (length c.args.list.now)) c.loop-i.i c.loop-i.invariant (c.crosses_later.ensures c.if-crosses_later.false)

pub returns : goal.returns
returns c = λ _. none_cross c.args.points.now c.args.edges.now c.args.list.now (λ i l. c.loop-i.invariant i (omega (arith, l, c.loop-i-test.false)))
