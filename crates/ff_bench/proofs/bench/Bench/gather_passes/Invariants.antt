use Rattle.std.proofs.Common.{◌≡◌, ◌+◌, ◌≤◌, ℕ, length, vec_capacity}
use Rattle.ff_door.specs.Views.{AreOutside}
use Rattle.ff_bench.specs.Views.{PassView}
use Rattle.ff_bench.specs.Runs.{ArePasses, IsSeatOf, AreKept}
use Rattle.ff_bench.proofs.Dealing.{AreTaken}
use Rattle.ff_bench.proofs.bench.Bench.gather_passes.Given as goal

abbrev pub invariant-loop-pass : goal.invariant-loop-pass
invariant-loop-pass l = record {
  passes : ArePasses l.self l.passes.items;
  seats : AreOutside l.self.door l.seats.items;
  taken : AreTaken PassView IsSeatOf l.fn.passes.items l.passes.items l.seats.items;
  kept : AreKept l.fn.seats.items l.seats.items;
  count : length l.seats.items + length l.passes.items ≡ length l.fn.seats.items + length l.fn.passes.items;
  room : vec_capacity l.seats ≡ vec_capacity l.fn.seats;
}

abbrev pub decreases-loop-pass : goal.decreases-loop-pass
decreases-loop-pass l = length l.passes.items
