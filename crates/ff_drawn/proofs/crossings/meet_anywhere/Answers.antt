use Rattle.ff_drawn.proofs.EdgeExtents.{apart_in_x, turned}
use Rattle.ff_drawn.proofs.crossings.meet_anywhere.Goals as goal

pub returns-then-is_west_of : goal.returns-then-is_west_of
returns-then-is_west_of c = λ _. let r = c.requires in apart_in_x c.args.points.now c.args.edges.now c.args.e c.args.k r.first r.second (c.is_west_of.ensures.0 c.if-is_west_of.true)

pub returns-then-is_west_of-2 : goal.returns-then-is_west_of-2
returns-then-is_west_of-2 c = λ _. let r = c.requires in turned (apart_in_x c.args.points.now c.args.edges.now c.args.k c.args.e r.second r.first (c.is_west_of-2.ensures.0 c.if-is_west_of-2.true))
