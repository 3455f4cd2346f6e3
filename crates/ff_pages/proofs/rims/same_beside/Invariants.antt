use Rattle.ff_propagate.specs.Facts.{value_at}
use Rattle.ff_pages.specs.Rims.{HasSameRim}
use Rattle.ff_pages.proofs.rims.same_beside.Given as goal

abbrev pub invariant-loop-j : goal.invariant-loop-j
invariant-loop-j l = HasSameRim (value_at l.old) (value_at l.new) l.part l.con l.j
