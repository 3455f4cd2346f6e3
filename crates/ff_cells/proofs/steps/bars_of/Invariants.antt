use Rattle.ff_cells.specs.Steps.{AreRingBars}
use Rattle.ff_cells.proofs.steps.bars_of.Given as goal

abbrev pub invariant-loop-face : goal.invariant-loop-face
invariant-loop-face l = AreRingBars l.folded.points l.faces.rings l.folded.up l.face l.bars.items
