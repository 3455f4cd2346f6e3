use Rattle.std.proofs.Common.{ℕ, ◌<◌}
use Rattle.ff_types.specs.CaseFields.{IsNextStart}
use Rattle.ff_types.proofs.cases.are_starts.Given as goal

abbrev pub invariant-loop-n : goal.invariant-loop-n
invariant-loop-n l = (k : ℕ) → k < l.n → IsNextStart l.vars l.starts k
