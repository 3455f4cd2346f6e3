use Rattle.std.proofs.Common.{◌≡◌, ℕ, ◌<◌, ◌≤◌, Some, slice_index, slice_index_or, length}
use Rattle.std.specs.Vec.{vec_capacity}
use Rattle.ff_tables.specs.declared.orders.Order.TheVariants.{Below}
use Rattle.ff_propagate.specs.Trails.{known}
use Rattle.ff_solver.proofs.search.read_values.Given as goal

abbrev pub invariant-loop-k : goal.invariant-loop-k
invariant-loop-k l = (length l.values.items ≡ l.k) × (length l.part ≤ vec_capacity l.values)
    × ((j : ℕ) → j < l.k → known l.trail (slice_index l.part j) ≡ Some
    (slice_index_or l.values.items j Below))
