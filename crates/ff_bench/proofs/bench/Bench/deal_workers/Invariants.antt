use Rattle.std.proofs.Common.{◌≡◌, ◌+◌, ◌≤◌, ℕ, length, slice_get, Some, vec_capacity}
use Rattle.ff_bench.specs.Views.{WorkerView}
use Rattle.ff_bench.specs.Runs.{IsNewWorker}
use Rattle.ff_bench.specs.Dealt.{AreBackward, AreHandsBackward}
use Rattle.ff_bench.proofs.bench.Bench.deal_workers.Given as goal

abbrev pub invariant-loop-worker : goal.invariant-loop-worker
invariant-loop-worker l = record {
  seats : AreBackward l.self.door l.self.door.seats l.seats.items;
  left : length l.seats.items + l.worker ≡ l.count;
  hands : AreHandsBackward l.count l.hands.items;
  hands_left : length l.hands.items + l.worker ≡ l.count;
  workers : (j : ℕ) (w : WorkerView) → slice_get l.workers.items j ≡ Some w → IsNewWorker l.self j w;
  made : length l.workers.items ≡ l.worker;
  room : l.count ≤ vec_capacity l.workers;
}
