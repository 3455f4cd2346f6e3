use Rattle.std.proofs.Common.{◌≡◌, ℕ, ◌<◌, slice_get, Some}
use Rattle.ff_tables.specs.declared.terms.Constraint.{Constraint}
use Rattle.ff_tables.specs.Systems.{IsFit}
use Rattle.ff_tables.proofs.fitting.are_fit.Given as goal

abbrev pub invariant-loop-c : goal.invariant-loop-c
invariant-loop-c l = (c : ℕ) (con : Constraint) → c < l.c → slice_get l.constraints c ≡ Some con → IsFit l.vars con
