use Rattle.std.proofs.Common.{pos, ◌<ℤ◌}
use Rattle.ff_whole.specs.declared.places.Place.{Place}
use Rattle.ff_cells.specs.Gap.{run}
use Rattle.ff_cells.specs.Next.{StartsUp, IsNext}
use Rattle.ff_cells.proofs.sweep.next_border.Given as goal

abbrev pub invariant-loop-i : goal.invariant-loop-i
invariant-loop-i l = (left : Place) → pos 0 <ℤ left.w → StartsUp left l.v → pos 0 <ℤ run left l.fn.limit.place
    → IsNext left l.fn.limit.place l.v l.i l.right.place
