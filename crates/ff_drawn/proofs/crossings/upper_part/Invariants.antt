use Rattle.ff_drawn.specs.Extents.{Reaches}
use Rattle.ff_drawn.proofs.Halves.{IsPartTo}
use Rattle.ff_drawn.proofs.crossings.upper_part.Given as goal

abbrev pub invariant-loop-i : goal.invariant-loop-i
invariant-loop-i l = IsPartTo (Reaches l.is_upright l.at) l.list l.i l.part.items
