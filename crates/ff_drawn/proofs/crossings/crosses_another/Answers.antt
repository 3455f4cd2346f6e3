use Rattle.ff_drawn.proofs.EdgeExtents.{none_more}
use Rattle.ff_drawn.proofs.crossings.crosses_another.Goals as goal

pub meet_anywhere-requires-clause-first : goal.meet_anywhere-requires-clause-first
meet_anywhere-requires-clause-first c = let r = c.requires in r.extents c.args.i r.within

pub meet_anywhere-requires-clause-second : goal.meet_anywhere-requires-clause-second
meet_anywhere-requires-clause-second c = let r = c.requires in r.extents c.loop-j.j c.loop-j-test.true

pub loop-j-preserved : goal.loop-j-preserved
loop-j-preserved c = none_more c.args.points.now c.args.edges.now c.args.list.now c.args.i c.loop-j.j c.loop-j.invariant (c.meet_anywhere.ensures c.if-meet_anywhere.false)
