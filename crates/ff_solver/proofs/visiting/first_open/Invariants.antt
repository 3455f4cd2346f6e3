use Rattle.std.proofs.Common.{◌≡◌, ℕ, ◌<◌, None, slice_index}
use Rattle.ff_propagate.specs.Trails.{known}
use Rattle.ff_solver.proofs.visiting.first_open.Given as goal

abbrev pub invariant-loop-k : goal.invariant-loop-k
invariant-loop-k l = (j : ℕ) → j < l.k → known l.trail (slice_index l.part j) ≡ None → ⊥
