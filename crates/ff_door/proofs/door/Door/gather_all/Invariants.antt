use Rattle.std.proofs.Common.{◌≡◌, ℕ, ◌+◌, ◌≤◌, Some, slice_get, length}
use Rattle.ff_door.specs.Rule.{Out}
use Rattle.ff_door.specs.Views.{SeatView}
use Rattle.ff_door.proofs.door.Door.gather_all.Given as goal

abbrev pub invariant-loop-other : goal.invariant-loop-other
invariant-loop-other g l = record {
  same : (l.head.table_id ≡ l.initial.head.table_id) × (l.head.me.0.number ≡ l.initial.head.me.0.number) × (l.head.me.0.seen ≡ l.initial.head.me.0.seen);
  out : Out l.head.me;
  rest : (k : ℕ) (d : SeatView g.row.T-Entry.Denot g.row.T-Base.Denot) → slice_get l.seats.items k ≡ Some d → slice_get l.initial.seats.items k ≡ Some d;
  parts : l.head.me.0.parts + length l.seats.items ≡ l.initial.head.me.0.parts + length l.initial.seats.items;
  joined : (k : ℕ) (d : SeatView g.row.T-Entry.Denot g.row.T-Base.Denot) → length l.seats.items ≤ k → slice_get l.initial.seats.items k ≡ Some d → (i : ℕ) × (slice_get l.head.me.0.joined i ≡ Some (d.number, d.seen));
}

abbrev pub decreases-loop-other : goal.decreases-loop-other
decreases-loop-other g l = length l.seats.items
