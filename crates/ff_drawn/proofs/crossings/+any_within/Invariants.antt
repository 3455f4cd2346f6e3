use Rattle.ff_drawn.proofs.crossings.+any_within.Given as goal

abbrev pub decreases-any_within : goal.decreases-any_within
decreases-any_within l = l.window.halvings
