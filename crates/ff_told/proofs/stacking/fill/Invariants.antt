use Rattle.std.proofs.Common.{◌≡◌, ℕ, ◌-◌, drop, length, Option}
use Rattle.ff_tables.specs.declared.orders.Order.{Order}
use Rattle.ff_propagate.specs.Solutions.{joint}
use Rattle.ff_told.specs.Stacked.{AreValues}
use Rattle.ff_told.proofs.stacking.fill.Given as goal

abbrev pub invariant-loop-j : goal.invariant-loop-j
invariant-loop-j l = (length l.values ≡ length l.fn.values)
    × ((value : ℕ → Option Order) → AreValues value l.fn.values
    → AreValues (joint value (drop (length l.vars - l.j) l.vars) (drop (length l.vars - l.j) l.solution)) l.values)
