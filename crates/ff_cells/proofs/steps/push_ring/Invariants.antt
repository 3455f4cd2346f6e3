use Rattle.ff_cells.specs.Steps.{AddsSteps}
use Rattle.ff_cells.proofs.steps.push_ring.Given as goal

abbrev pub invariant-loop-i : goal.invariant-loop-i
invariant-loop-i l = AddsSteps l.points l.ring l.up l.face l.i l.fn.bars.items l.bars.items
