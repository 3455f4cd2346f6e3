use Rattle.ff_drawn.specs.Extents.{IsBeyond}
use Rattle.ff_drawn.proofs.Halves.{IsPartTo}
use Rattle.ff_drawn.proofs.crossings.lower_part.Given as goal

abbrev pub invariant-loop-i : goal.invariant-loop-i
invariant-loop-i l = IsPartTo (λ e. IsBeyond l.is_upright l.at e → ⊥) l.list l.i l.part.items
