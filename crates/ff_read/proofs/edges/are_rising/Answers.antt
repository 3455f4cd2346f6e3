use Rattle.std.proofs.Common.{arith}
use Rattle.ff_read.proofs.SortedEdges.{rising_start}
use Rattle.ff_read.proofs.edges.are_rising.Goals as goal

pub loop-i-init : goal.loop-i-init
loop-i-init c = rising_start c.args.keys.now

pub returns : goal.returns
returns c t i j h l = c.loop-i.invariant i j h (omega (arith, l, c.loop-i-test.false))
