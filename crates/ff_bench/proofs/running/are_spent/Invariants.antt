use Rattle.std.proofs.Common.{◌≡◌, ◌<◌, ℕ, slice_get, Some}
use Rattle.ff_bench.specs.Views.{PassView, left_of}
use Rattle.ff_bench.proofs.running.are_spent.Given as goal

abbrev pub invariant-loop-k : goal.invariant-loop-k
invariant-loop-k l = (j : ℕ) (p : PassView) → j < l.k → slice_get l.passes j ≡ Some p → left_of p ≡ 0
