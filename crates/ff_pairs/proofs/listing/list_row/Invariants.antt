use Rattle.std.proofs.Common.{◌<◌}
use Rattle.ff_pairs.specs.Tables.{IsListedTo}
use Rattle.ff_pairs.proofs.listing.list_row.Given as goal

abbrev pub invariant-loop-h : goal.invariant-loop-h
invariant-loop-h l = record { listed : IsListedTo l.width l.table l.f l.h l.list.items; after : l.f < l.h }
