use Rattle.std.proofs.Common.{◌≡◌, ◌++◌, take, string_bytes}
use Rattle.std.specs.List.{flat_map}
use Rattle.ff_report.specs.Parts.{sign}
use Rattle.ff_report.proofs.parts.push_signs.Given as goal

abbrev pub invariant-loop-value : goal.invariant-loop-value
invariant-loop-value l = string_bytes l.text ≡ string_bytes l.fn.text ++ flat_map sign (take l.value-index l.values)
