use Rattle.std.proofs.Common.{◌≡◌, ◌++◌, string_bytes}
use Rattle.ff_report.specs.Heads.{lines_of}
use Rattle.ff_report.specs.Parts.{solution_of}
use Rattle.ff_report.proofs.parts.push_solutions.Given as goal

abbrev pub invariant-loop-i : goal.invariant-loop-i
invariant-loop-i l = string_bytes l.text ≡ string_bytes l.fn.text ++ lines_of (solution_of l.solutions) l.i
