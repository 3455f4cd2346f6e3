use Rattle.std.proofs.Common.{◌≡◌, take}
use Rattle.std.specs.List.{filter_map}
use Rattle.ff_types.specs.Sheets.{sheet_of}
use Rattle.ff_tacos.specs.Making.{mixed}
use Rattle.ff_tacos.proofs.mixed.collect.Given as goal

abbrev pub invariant-loop-i : goal.invariant-loop-i
invariant-loop-i l = l.list.items ≡ filter_map (mixed (sheet_of l.pattern l.faces l.folded))
    (take l.i l.edge_pairs)
