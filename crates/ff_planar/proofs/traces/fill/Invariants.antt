use Rattle.ff_planar.proofs.FilledSides.{FillsTo}
use Rattle.ff_planar.proofs.traces.fill.Given as goal

abbrev pub invariant-loop-d : goal.invariant-loop-d
invariant-loop-d l = FillsTo l.fn.sides l.orbit l.d-index l.side l.sides
