use Rattle.std.proofs.Common.{◌≡◌, ℕ, ◌<◌, length, slice_index}
use Rattle.ff_planar.specs.Turns.{IsNext}
use Rattle.ff_planar.proofs.walks.nexts_of.Given as goal

abbrev pub invariant-loop-d : goal.invariant-loop-d
invariant-loop-d l = record {
  count : length l.nexts.items ≡ l.d;
  each : (k : ℕ) → k < l.d → IsNext l.points l.edges l.darts k (slice_index l.nexts.items k);
}
