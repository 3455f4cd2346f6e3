use Rattle.std.proofs.Common.{◌≡◌, length}
use Rattle.ff_propagate.specs.Giving.{HasGivens, Agreed}
use Rattle.ff_propagate.proofs.giving.give.Given as goal

abbrev pub invariant-loop-i : goal.invariant-loop-i
invariant-loop-i l = (length l.facts ≡ length l.fn.facts) × HasGivens l.givens l.i l.facts
    × Agreed l.givens l.i l.facts
