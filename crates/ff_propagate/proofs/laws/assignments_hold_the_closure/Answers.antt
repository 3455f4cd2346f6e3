use Rattle.ff_propagate.proofs.Exact.{holds_closure}
use Rattle.ff_propagate.proofs.laws.assignments_hold_the_closure.Goals as goal

pub returns : goal.returns
returns c = holds_closure
