use Rattle.std.proofs.Common.{◌≡◌, ◌++◌, codes, take, string_bytes}
use Rattle.std.specs.List.{flat_map}
use Rattle.ff_report.specs.Parts.{sign}
use Rattle.ff_transcript.proofs.boards.push_solution.Given as goal

abbrev pub invariant-loop-i : goal.invariant-loop-i
invariant-loop-i l = string_bytes l.text ≡ string_bytes l.fn.text ++ codes " " ++ flat_map sign (take l.i l.values)
