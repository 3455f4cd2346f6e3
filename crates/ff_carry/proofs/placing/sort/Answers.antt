use Rattle.ff_carry.proofs.Orders.{by_level}
use Rattle.ff_carry.proofs.placing.sort.Goals as goal

pub returns-clause-sorted : goal.returns-clause-sorted
returns-clause-sorted c = by_level c.sort_unstable.new.self c.sort_unstable.ensures.sorted
