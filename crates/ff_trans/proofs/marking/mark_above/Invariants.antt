use Rattle.std.proofs.Common.{ℕ, ◌-◌, ◌<◌, ◌≤◌, length, slice_index}
use Rattle.ff_trans.specs.Rows.{IsMarked}
use Rattle.ff_trans.proofs.marking.mark_above.Given as goal

abbrev pub invariant-loop-n : goal.invariant-loop-n
invariant-loop-n l = record {
  marked : IsMarked l.faces (length l.faces - l.n) (length l.faces) l.cell l.fn.row l.row;
  above : (j : ℕ) → length l.faces - l.n ≤ j → j < length l.faces → l.h < slice_index l.faces j;
  within : l.n ≤ length l.faces;
}
