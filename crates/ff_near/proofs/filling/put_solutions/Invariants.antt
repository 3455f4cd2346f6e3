use Rattle.std.proofs.Common.{ℕ, ◌≡◌, ◌≤◌, length, drop, Option}
use Rattle.ff_tables.specs.declared.orders.Order.{Order}
use Rattle.ff_propagate.specs.Choices.{value_of}
use Rattle.ff_parts.specs.Lists.{vars_of}
use Rattle.ff_near.specs.Filled.{HasValues}
use Rattle.ff_near.proofs.filling.put_solutions.Given as goal

abbrev pub invariant-loop-k : goal.invariant-loop-k
invariant-loop-k l = record {
  within : l.k ≤ length l.parts;
  long : length l.values.items ≡ length l.initial.values.items;
  has : (known : ℕ → Option Order) → HasValues known l.initial.values.items → HasValues (value_of known (vars_of (drop l.k l.parts)) (drop l.k l.solutions)) l.values.items;
}

abbrev pub decreases-loop-k : goal.decreases-loop-k
decreases-loop-k l = l.k
