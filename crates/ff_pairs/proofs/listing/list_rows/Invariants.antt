use Rattle.ff_pairs.specs.Tables.{IsListedTo}
use Rattle.ff_pairs.proofs.listing.list_rows.Given as goal

abbrev pub invariant-loop-f : goal.invariant-loop-f
invariant-loop-f l = IsListedTo l.width l.table l.f 0 l.list.items
