use Rattle.std.proofs.Common.{ℕ, ◌<◌}
use Rattle.ff_core.specs.Ends.{IsMet}
use Rattle.ff_core.proofs.refuting.contradiction.Given as goal

abbrev pub invariant-loop-i : goal.invariant-loop-i
invariant-loop-i l = (k : ℕ) → k < l.i → IsMet l.givens l.facts k
