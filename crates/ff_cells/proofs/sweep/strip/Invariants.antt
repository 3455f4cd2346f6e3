use Rattle.std.specs.List.Sorted.{IsPermutation}
use Rattle.ff_cells.specs.Tally.{StaysFew}
use Rattle.ff_cells.proofs.Ends.{to_go}
use Rattle.ff_cells.proofs.Sweeping.{Swept}
use Rattle.ff_cells.proofs.sweep.strip.Given as goal

abbrev pub invariant-borders : goal.invariant-borders
invariant-borders l = record {
  same : IsPermutation l.fn.bars.items l.bars.items;
  few : StaysFew l.fn.found l.found;
  swept : Swept l.fn.bars.items l.fn.from.place l.fn.limit.place l.left.place l.fn.found l.found;
}

abbrev pub decreases-borders : goal.decreases-borders
decreases-borders l = to_go l.left.place l.fn.limit.place l.fn.bars.items
