use Rattle.std.proofs.Common.{◌≡◌, ◌+◌, ◌≤◌, ℕ, length, slice_get, Some, vec_capacity}
use Rattle.ff_bench.specs.Views.{PassView}
use Rattle.ff_bench.specs.Runs.{IsNewPass}
use Rattle.ff_bench.specs.Dealt.{AreBackward}
use Rattle.ff_bench.proofs.bench.Bench.deal_passes.Given as goal

abbrev pub invariant-loop-viewer : goal.invariant-loop-viewer
invariant-loop-viewer l = record {
  seats : AreBackward l.self.door l.self.door.seats l.seats.items;
  left : length l.seats.items + l.viewer ≡ l.self.door.seats;
  passes : (j : ℕ) (p : PassView) → slice_get l.passes.items j ≡ Some p → IsNewPass l.self j p;
  count : length l.passes.items ≡ l.viewer;
  room : length l.lengths ≤ vec_capacity l.passes;
}
