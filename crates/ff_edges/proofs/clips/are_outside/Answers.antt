use Rattle.ff_edges.proofs.PartsInside.{past_none}
use Rattle.ff_edges.proofs.clips.are_outside.Goals as goal

pub returns-then-are_past : goal.returns-then-are_past
returns-then-are_past c = λ _. past_none c.args.points.now c.args.up c.args.ring.now c.args.p c.args.q c.requires.apart c.loop-i.i c.loop-i-test.true (c.are_past.ensures.0 c.if-are_past.true)
