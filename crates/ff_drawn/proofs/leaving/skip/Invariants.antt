use Rattle.std.proofs.Common.{◌-◌, ◌≤◌, length}
use Rattle.ff_drawn.specs.Darts.{ArePassed}
use Rattle.ff_drawn.proofs.leaving.skip.Given as goal

abbrev pub invariant-loop-d : goal.invariant-loop-d
invariant-loop-d l = record {
  within : l.d ≤ length l.darts;
  passed : ArePassed l.darts l.v l.d;
}

abbrev pub decreases-loop-d : goal.decreases-loop-d
decreases-loop-d l = length l.darts - l.d
