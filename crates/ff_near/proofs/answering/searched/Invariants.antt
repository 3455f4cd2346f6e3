use Rattle.std.proofs.Common.{take}
use Rattle.ff_propagate.specs.Facts.{value_at}
use Rattle.ff_near.specs.Gathered.{HasSearched}
use Rattle.ff_near.proofs.answering.searched.Given as goal

abbrev pub invariant-loop-k : goal.invariant-loop-k
invariant-loop-k l = HasSearched l.case l.list (value_at l.facts) l.budget (take l.k l.parts) l.sofar.bests.items l.sofar.firsts.items l.sofar.none l.sofar.unfinished
