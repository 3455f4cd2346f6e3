use Rattle.ff_edges.proofs.PartsInside.{inside_none, inside_next, inside_nothing}
use Rattle.ff_edges.proofs.clips.part_inside.Goals as goal

pub loop-i-init : goal.loop-i-init
loop-i-init c = inside_none c.args.points.now c.args.up c.args.ring.now c.args.p c.args.q c.requires.p_near c.requires.q_near c.requires.apart c.place_of.result c.place_of-2.result c.place_of.ensures c.place_of-2.ensures

pub returns-in-None : goal.returns-in-None
returns-in-None c = inside_nothing c.args.points.now c.args.up c.args.ring.now c.args.p c.args.q c.requires.apart c.loop-i.i c.loop-i.way.0 c.loop-i.way.1 c.border_of-border.result c.loop-i-test.true c.border_of-border.ensures.value c.loop-i.invariant c.in-None.ensures

pub loop-i-preserved : goal.loop-i-preserved
loop-i-preserved c = inside_next c.args.points.now c.args.up c.args.ring.now c.args.p c.args.q c.loop-i.i c.loop-i.way.0 c.loop-i.way.1 c.in-Some.clipped.0 c.in-Some.clipped.1 c.border_of-border.result c.border_of-border.ensures.value c.loop-i.invariant c.in-Some.ensures
