use Rattle.std.proofs.Common.{◌-◌, ◌≤◌, length}
use Rattle.ff_cells.specs.Reached.{AreActive}
use Rattle.ff_cells.specs.Stopped.{AreSwept}
use Rattle.ff_cells.specs.Strip.{x_at}
use Rattle.ff_cells.proofs.sweep.strips.Given as goal

abbrev pub invariant-loop-j : goal.invariant-loop-j
invariant-loop-j l = record {
  done : AreSwept l.bars l.xs (l.j - 1) l.found;
  reached : AreActive l.bars (x_at l.xs (l.j - 1)) (x_at l.xs (l.j - 1)) l.active;
  within : l.j - 1 ≤ length l.xs - 1;
}
