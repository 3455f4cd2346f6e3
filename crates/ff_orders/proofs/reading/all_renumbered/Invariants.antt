use Rattle.std.proofs.Common.{◌≡◌, map, take, Some}
use Rattle.ff_orders.specs.Given.{renumbered}
use Rattle.ff_orders.proofs.reading.all_renumbered.Given as goal

abbrev pub invariant-loop-i : goal.invariant-loop-i
invariant-loop-i l = map (renumbered l.numbers) (take l.i l.items) ≡ map Some l.orders
