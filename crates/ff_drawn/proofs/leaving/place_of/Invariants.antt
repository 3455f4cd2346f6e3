use Rattle.std.proofs.Common.{◌-◌}
use Rattle.ff_drawn.proofs.StartTables.{IsBetween}
use Rattle.ff_drawn.proofs.leaving.place_of.Given as goal

abbrev pub invariant-loop-low : goal.invariant-loop-low
invariant-loop-low l = IsBetween l.darts l.dart l.low l.high

abbrev pub decreases-loop-low : goal.decreases-loop-low
decreases-loop-low l = l.high - l.low
