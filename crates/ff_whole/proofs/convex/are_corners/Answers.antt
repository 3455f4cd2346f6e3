use Rattle.std.proofs.Common.{rules}
use borrow.Author.Count.{below_more}
use Rattle.ff_whole.proofs.convex.are_corners.Goals as goal

pub loop-i-preserved : goal.loop-i-preserved
loop-i-preserved c = below_more _ _ c.loop-i.invariant (c.is_corner.ensures.0 (search rules))
