use Rattle.std.proofs.Common.{◌≡◌, ℕ, ◌<◌, slice_get, Some}
use Rattle.ff_tables.specs.declared.givens.Given.{Given}
use Rattle.ff_propagate.proofs.closing.givens_fit.Given as goal

abbrev pub invariant-loop-i : goal.invariant-loop-i
invariant-loop-i l = (i : ℕ) (g : Given) → i < l.i → slice_get l.givens i ≡ Some g → g.var < l.vars
