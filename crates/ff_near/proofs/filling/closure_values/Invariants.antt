use Rattle.std.proofs.Common.{◌≡◌, length}
use Rattle.ff_propagate.specs.Facts.{value_at}
use Rattle.ff_near.specs.Filled.{HasValues}
use Rattle.ff_near.proofs.filling.closure_values.Given as goal

abbrev pub invariant-loop-v : goal.invariant-loop-v
invariant-loop-v l = (length l.values.items ≡ l.v) × HasValues (value_at l.facts) l.values.items
