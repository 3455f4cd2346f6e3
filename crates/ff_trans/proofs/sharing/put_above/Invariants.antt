use Rattle.std.proofs.Common.{ℕ, ◌-◌, ◌<◌, ◌≤◌, length, slice_index}
use Rattle.ff_basics.specs.NumberedLists.{lists_in}
use Rattle.ff_trans.specs.Rows.{IsPut}
use Rattle.ff_trans.proofs.sharing.put_above.Given as goal

abbrev pub invariant-loop-n : goal.invariant-loop-n
invariant-loop-n l = record {
  put : IsPut l.faces (length l.faces - l.n) (length l.faces) l.cell (lists_in l.fn.lists) (lists_in l.lists);
  above : (j : ℕ) → length l.faces - l.n ≤ j → j < length l.faces → l.f < slice_index l.faces j;
  within : l.n ≤ length l.faces;
}
