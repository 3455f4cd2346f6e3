use Rattle.std.proofs.Common.{ℕ, ◌<◌}
use Rattle.ff_tables.specs.Fitting.{DifferFrom}
use Rattle.ff_tables.proofs.fitting.all_differ.Given as goal

abbrev pub invariant-loop-i : goal.invariant-loop-i
invariant-loop-i l = (i : ℕ) → i < l.i → DifferFrom l.terms i
