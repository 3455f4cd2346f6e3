use Rattle.std.proofs.Common.{◌≡◌, ℕ, ◌<◌, slice_get, Some}
use Rattle.ff_types.specs.Placing.{Meeting, Breaks}
use Rattle.ff_reflect.specs.Walked.{met_of}
use Rattle.ff_reflect.proofs.flags.first_broken.Given as goal

abbrev pub invariant-loop-i : goal.invariant-loop-i
invariant-loop-i l = (j : ℕ) (m : Meeting) → j < l.i → slice_get (met_of l.met) j ≡ Some m → Breaks l.marks l.up m → ⊥
