use Rattle.std.proofs.Common.{◌↔◌, ℕ}
use Rattle.std.specs.List.{Contains}
use Rattle.std.specs.List.Sorted.{IsStrictlyIncreasing}
use Rattle.ff_cells.specs.Next.{IsOpenAfter}
use Rattle.ff_cells.proofs.Emitting.{Emitted}
use Rattle.ff_cells.proofs.slab.slab.Given as goal

abbrev pub invariant-loop-i : goal.invariant-loop-i
invariant-loop-i l = record {
  rising : IsStrictlyIncreasing l.faces.items;
  opened : (f : ℕ) → Contains l.faces.items f ↔ IsOpenAfter l.v l.i f;
  emitted : Emitted l.v l.left.place l.right.place l.i l.fn.found l.found;
}
