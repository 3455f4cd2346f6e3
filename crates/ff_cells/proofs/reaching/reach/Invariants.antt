use Rattle.std.proofs.Common.{◌-◌, length}
use Rattle.ff_cells.specs.Reached.{AreActive}
use Rattle.ff_cells.proofs.reaching.reach.Given as goal

abbrev pub invariant-bars : goal.invariant-bars
invariant-bars l = AreActive l.fn.bars l.fn.a l.fn.c l.active

abbrev pub decreases-bars : goal.decreases-bars
decreases-bars l = length l.fn.bars - l.active.reached
