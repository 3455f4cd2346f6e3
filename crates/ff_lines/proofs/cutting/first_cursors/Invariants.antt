use Rattle.std.proofs.Common.{◌≡◌, ℕ, ◌<◌, length, slice_get, Some}
use Rattle.ff_lines.specs.declared.items.LineItem.{LineItem}
use Rattle.ff_lines.specs.Heads.{IsCursor, cursor_at}
use Rattle.ff_lines.proofs.cutting.first_cursors.Given as goal

abbrev pub invariant-loop-i : goal.invariant-loop-i
invariant-loop-i l = record {
  count : length l.cursors.items ≡ l.i;
  each : (k : ℕ) (m : LineItem) → k < l.i → slice_get l.lines k ≡ Some m → IsCursor m l.points 0 (cursor_at l.cursors.items k);
}
