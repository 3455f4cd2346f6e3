use Rattle.std.proofs.Common.{◌≡◌, ◌++◌, length}
use Rattle.ff_refute.proofs.trimming.joined.Given as goal

abbrev pub invariant-loop-step : goal.invariant-loop-step
invariant-loop-step l = l.first.items ++ l.second.items ≡ l.fn.first.items ++ l.fn.second.items

abbrev pub decreases-loop-step : goal.decreases-loop-step
decreases-loop-step l = length l.first.items
