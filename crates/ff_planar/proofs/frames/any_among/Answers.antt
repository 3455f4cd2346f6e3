use Rattle.ff_planar.proofs.Boxes.{same_rings}
use Rattle.ff_planar.proofs.frames.any_among.Goals as goal

pub any_held-requires-clause-spots : goal.any_held-requires-clause-spots
any_held-requires-clause-spots c = let r = c.requires in r.spots.vertices

pub any_held-requires-clause-spots_in_order : goal.any_held-requires-clause-spots_in_order
any_held-requires-clause-spots_in_order c = let r = c.requires in r.spots.in_order

pub any_held-requires-clause-frames : goal.any_held-requires-clause-frames
any_held-requires-clause-frames c = same_rings c.args.points.now c.args.rings.now c.args.frames.now _ c.requires.frames c.order.ensures.same
