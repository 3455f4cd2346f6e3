use Rattle.std.proofs.Common.{ℕ, ◌≡◌, ◌≤◌, length, drop, Option}
use Rattle.ff_tables.specs.declared.orders.Order.{Order}
use Rattle.ff_propagate.specs.Solutions.{joint}
use Rattle.ff_near.specs.Filled.{HasValues}
use Rattle.ff_near.proofs.filling.put_solution.Given as goal

abbrev pub invariant-loop-k : goal.invariant-loop-k
invariant-loop-k l = record {
  within : l.k ≤ length l.part;
  long : length l.values.items ≡ length l.initial.values.items;
  has : (known : ℕ → Option Order) → HasValues known l.initial.values.items → HasValues (joint known (drop l.k l.part) (drop l.k l.solution)) l.values.items;
}

abbrev pub decreases-loop-k : goal.decreases-loop-k
decreases-loop-k l = l.k
