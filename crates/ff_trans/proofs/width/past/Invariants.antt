use Rattle.std.proofs.Common.{ℕ, ◌<◌, ◌≤◌, slice_index}
use Rattle.ff_types.specs.declared.limits.TheConstants.{MOST_FACES}
use Rattle.ff_trans.proofs.width.past.Given as goal

abbrev pub invariant-loop-i : goal.invariant-loop-i
invariant-loop-i l = record { least : l.least ≤ l.past; few : l.past ≤ MOST_FACES; faces : (k : ℕ) → k < l.i → slice_index l.faces k < l.past }
