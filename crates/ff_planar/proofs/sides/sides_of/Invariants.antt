use Rattle.std.proofs.Common.{◌≡◌, ℕ, ◌<◌, length}
use Rattle.ff_types.specs.Patterns.{edge_at}
use Rattle.ff_types.specs.Sides.{sides_at}
use Rattle.ff_planar.specs.Seen.{AreSeen}
use Rattle.ff_planar.proofs.sides.sides_of.Given as goal

abbrev pub invariant-loop-e : goal.invariant-loop-e
invariant-loop-e l = record {
  count : length l.seen.items ≡ l.e;
  each : (k : ℕ) → k < l.e → AreSeen l.points l.edges l.rings (edge_at l.edges k) (sides_at l.seen.items k);
}
