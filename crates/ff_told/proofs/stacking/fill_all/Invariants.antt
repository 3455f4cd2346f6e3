use Rattle.std.proofs.Common.{◌≡◌, ℕ, ◌-◌, drop, length, Option}
use Rattle.ff_tables.specs.declared.orders.Order.{Order}
use Rattle.ff_propagate.specs.Choices.{value_of}
use Rattle.ff_told.specs.Paged.{parts_of}
use Rattle.ff_told.specs.Stacked.{AreValues}
use Rattle.ff_told.proofs.stacking.fill_all.Given as goal

abbrev pub invariant-loop-i : goal.invariant-loop-i
invariant-loop-i l = (length l.values ≡ length l.fn.values)
    × ((value : ℕ → Option Order) → AreValues value l.fn.values
    → AreValues (value_of value (drop (length l.pages - l.i) (parts_of l.pages)) (drop (length l.pages - l.i) l.solutions)) l.values)
