use Rattle.std.proofs.Common.{◌≡◌, ℕ, ◌<◌, ◌≤◌, length, slice_index}
use Rattle.std.specs.Vec.{vec_capacity}
use Rattle.ff_solver.proofs.copying.numbers_to.Given as goal

abbrev pub invariant-loop-number : goal.invariant-loop-number
invariant-loop-number l = (length l.numbers.items ≡ l.number) × (l.count ≤ vec_capacity l.numbers)
    × ((j : ℕ) → j < l.number → slice_index l.numbers.items j ≡ j)
