use Rattle.ff_drawn.proofs.EdgeExtents.{same_extents, none_cross_before}
use Rattle.ff_drawn.proofs.crossings.any_among.Goals as goal

pub any_later-requires-clause-extents : goal.any_later-requires-clause-extents
any_later-requires-clause-extents c = same_extents c.args.points.now c.args.edges.now c.args.list.now c.order.new.list c.requires.extents c.order.ensures.same

pub returns : goal.returns
returns c = λ e. none_cross_before c.args.points.now c.args.edges.now c.args.list.now c.order.new.list c.order.ensures.same (c.any_later.ensures e)
