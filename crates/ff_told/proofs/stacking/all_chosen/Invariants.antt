use Rattle.ff_told.specs.Paged.{KeepAllPages}
use Rattle.ff_told.specs.Stacked.{AreChosen}
use Rattle.ff_told.proofs.stacking.all_chosen.Given as goal

abbrev pub invariant-loop-i : goal.invariant-loop-i
invariant-loop-i l = KeepAllPages l.case l.fn.pages l.pages × AreChosen l.case l.fn.pages l.choice l.i l.solutions.items
