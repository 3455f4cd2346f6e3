use Rattle.std.proofs.Common.{◌≡◌, ◌+◌, ◌≤◌, true, [], Some, length, vec_capacity}
use Rattle.ff_door.specs.Rule.{Out}
use Rattle.ff_door.specs.Views.{AreNumbered}
use Rattle.ff_door.proofs.opening.new_door.Given as goal

abbrev pub invariant-loop-i : goal.invariant-loop-i
invariant-loop-i g l = record {
  door : l.seat.table_id ≡ l.door.table;
  out : Out l.seat.me;
  last : (l.seat.me.0.makes ≡ true) × (l.seat.me.0.number + 1 ≡ l._i) × (l.seat.me.0.made ≡ l._i) × (l.seat.me.0.parts + l._i ≡ l.seats + 1);
  fresh : (l.seat.me.0.seen ≡ []) × (l.seat.me.0.turns ≡ 0) × (l.seat.me.0.base ≡ Some l.door.base);
  all : AreNumbered l.door l.all.items;
  count : length l.all.items + 1 ≡ l._i;
  room : l.seats ≤ vec_capacity l.all;
}
