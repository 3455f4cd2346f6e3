use Rattle.ff_drawn.proofs.EdgeExtents.{in_order}
use Rattle.ff_drawn.proofs.extents.order.Goals as goal

pub returns-clause-in_order : goal.returns-clause-in_order
returns-clause-in_order c = in_order c.sort_unstable.new.self c.sort_unstable.ensures.sorted
