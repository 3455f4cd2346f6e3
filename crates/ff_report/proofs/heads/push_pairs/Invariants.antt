use Rattle.std.proofs.Common.{◌≡◌, ◌++◌, string_bytes}
use Rattle.ff_report.specs.Heads.{lines_of, pair_of}
use Rattle.ff_report.proofs.heads.push_pairs.Given as goal

abbrev pub invariant-loop-n : goal.invariant-loop-n
invariant-loop-n l = string_bytes l.text ≡ string_bytes l.fn.text ++ lines_of (pair_of l.pairs l.facts) l.n
