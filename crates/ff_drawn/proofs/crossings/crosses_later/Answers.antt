use Rattle.std.proofs.Common.{arith}
use Rattle.ff_drawn.proofs.EdgeExtents.{none_after, none_more}
use Rattle.ff_drawn.proofs.crossings.crosses_later.Goals as goal

pub is_west_of-requires-clause-p_near : goal.is_west_of-requires-clause-p_near
is_west_of-requires-clause-p_near c = let r = c.requires in (r.extents c.args.i r.within).high_near

pub is_west_of-requires-clause-q_near : goal.is_west_of-requires-clause-q_near
is_west_of-requires-clause-q_near c = let r = c.requires in (r.extents c.loop-j.j c.loop-j-test.true).low_near

pub returns-then-is_west_of : goal.returns-then-is_west_of
returns-then-is_west_of c = λ _. let r = c.requires in none_after c.args.points.now c.args.edges.now c.args.list.now c.args.i c.loop-j.j r.extents r.in_order (let l = c.loop-j.auto.j in omega (arith, l)) c.loop-j-test.true (c.is_west_of.ensures.0 c.if-is_west_of.true) c.loop-j.invariant

pub meet-requires-clause-first : goal.meet-requires-clause-first
meet-requires-clause-first c = let r = c.requires in r.extents c.args.i r.within

pub meet-requires-clause-second : goal.meet-requires-clause-second
meet-requires-clause-second c = let r = c.requires in r.extents c.loop-j.j c.loop-j-test.true

pub loop-j-preserved : goal.loop-j-preserved
loop-j-preserved c = none_more c.args.points.now c.args.edges.now c.args.list.now c.args.i c.loop-j.j c.loop-j.invariant (c.meet.ensures c.if-meet.false)
