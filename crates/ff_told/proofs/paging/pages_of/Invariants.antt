use Rattle.std.proofs.Common.{take}
use Rattle.ff_told.specs.Paged.{AreLaid}
use Rattle.ff_told.specs.Earlier.{AreUnvisited}
use Rattle.ff_told.proofs.paging.pages_of.Given as goal

abbrev pub invariant-loop-i : goal.invariant-loop-i
invariant-loop-i l = AreLaid l.case l.budget l.givens.value l.facts.value (take l.i l.parts) l.pages.items × AreUnvisited l.pages.items
