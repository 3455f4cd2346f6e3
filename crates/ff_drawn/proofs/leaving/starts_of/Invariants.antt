use Rattle.std.proofs.Common.{◌≡◌, ℕ, ◌<◌, ◌≤◌, length, slice_index}
use Rattle.ff_drawn.specs.Darts.{ArePassed, IsStart}
use Rattle.ff_drawn.proofs.leaving.starts_of.Given as goal

abbrev pub invariant-loop-v : goal.invariant-loop-v
invariant-loop-v l = record {
  count : length l.starts.items ≡ l.v;
  within : l.start ≤ length l.darts;
  passed : ArePassed l.darts l.v l.start;
  each : (k : ℕ) → k < l.v → IsStart l.darts (record { tail = k; head = 0 }) (slice_index l.starts.items k);
}
