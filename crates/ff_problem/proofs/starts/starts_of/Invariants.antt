use Rattle.std.proofs.Common.{◌≡◌}
use Rattle.std.specs.List.{filter_map, range_with_len}
use Rattle.ff_types.specs.Sheets.{sheet_of}
use Rattle.ff_types.specs.Cases.{start_of}
use Rattle.ff_problem.proofs.starts.starts_of.Given as goal

abbrev pub invariant-loop-e : goal.invariant-loop-e
invariant-loop-e l = l.starts.items ≡ filter_map (start_of (sheet_of l.pattern l.faces l.folded) l.pairs) (range_with_len 0 l.e)
