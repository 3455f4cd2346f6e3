use Rattle.std.proofs.Common.{◌≡◌, ℕ, ◌<◌, length, slice_index}
use Rattle.ff_types.specs.Rings.{corner}
use Rattle.ff_planar.specs.Reflex.{AreDifferent}
use Rattle.ff_planar.proofs.bends.meets.Given as goal

abbrev pub invariant-loop-i : goal.invariant-loop-i
invariant-loop-i l = record {
  as_many : length l.marked ≡ length l.fn.marked;
  met : (k : ℕ) → k < l.i → slice_index l.marked (corner l.ring k) ≡ l.number;
  differ : AreDifferent l.ring l.i;
}
