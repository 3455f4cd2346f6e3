use Rattle.std.proofs.Common.{◌≡◌, ℕ, ◌<◌, length}
use Rattle.ff_types.specs.Faces.{mark_at}
use Rattle.ff_types.specs.Sides.{sides_at, IsMarkOf}
use Rattle.ff_planar.proofs.listing.filled_in.Given as goal

abbrev pub invariant-loop-e : goal.invariant-loop-e
invariant-loop-e l = record {
  count : length l.filled_in.items ≡ l.e;
  each : (k : ℕ) → k < l.e → IsMarkOf l.marks k (sides_at l.seen k) (mark_at l.filled_in.items k);
}
