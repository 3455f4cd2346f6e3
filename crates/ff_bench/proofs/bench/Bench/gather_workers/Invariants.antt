use Rattle.std.proofs.Common.{◌≡◌, ◌+◌, ◌≤◌, ℕ, length, vec_capacity}
use Rattle.ff_door.specs.Views.{AreOutside}
use Rattle.ff_bench.specs.Views.{WorkerView}
use Rattle.ff_bench.specs.Runs.{AreWorkers, IsWorkerSeat, AreKept}
use Rattle.ff_bench.proofs.Dealing.{AreTaken}
use Rattle.ff_bench.proofs.bench.Bench.gather_workers.Given as goal

abbrev pub invariant-loop-worker : goal.invariant-loop-worker
invariant-loop-worker l = record {
  workers : AreWorkers l.self l.workers.items;
  seats : AreOutside l.self.door l.seats.items;
  taken : AreTaken WorkerView IsWorkerSeat l.fn.workers.items l.workers.items l.seats.items;
  kept : AreKept l.fn.seats.items l.seats.items;
  count : length l.seats.items + length l.workers.items ≡ length l.fn.seats.items + length l.fn.workers.items;
  room : vec_capacity l.seats ≡ vec_capacity l.fn.seats;
}

abbrev pub decreases-loop-worker : goal.decreases-loop-worker
decreases-loop-worker l = length l.workers.items
