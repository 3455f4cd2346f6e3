use Rattle.ff_drawn.proofs.EdgeExtents.{apart_in_y, turned}
use Rattle.ff_drawn.proofs.crossings.meet.Goals as goal

pub returns-then-is_south_of : goal.returns-then-is_south_of
returns-then-is_south_of c = λ _. let r = c.requires in apart_in_y c.args.points.now c.args.edges.now c.args.e c.args.k r.first r.second (c.is_south_of.ensures.0 c.if-is_south_of.true)

pub returns-then-is_south_of-2 : goal.returns-then-is_south_of-2
returns-then-is_south_of-2 c = λ _. let r = c.requires in turned (apart_in_y c.args.points.now c.args.edges.now c.args.k c.args.e r.second r.first (c.is_south_of-2.ensures.0 c.if-is_south_of-2.true))
