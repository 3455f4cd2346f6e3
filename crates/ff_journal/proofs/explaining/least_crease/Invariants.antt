use Rattle.std.proofs.Common.{◌≡◌, ℕ, ◌<◌, slice_get, Some, None}
use Rattle.ff_tables.specs.declared.givens.Given.{Given}
use Rattle.ff_journal.specs.Premises.{crease_if}
use Rattle.ff_journal.proofs.explaining.least_crease.Given as goal

abbrev pub invariant-loop-i : goal.invariant-loop-i
invariant-loop-i l = (k : ℕ) (g : Given) → k < l.i → slice_get l.starts k ≡ Some g → crease_if l.var g ≡ None
