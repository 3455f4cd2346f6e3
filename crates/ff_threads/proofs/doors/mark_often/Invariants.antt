use Rattle.std.proofs.Common.{◌≡◌, false}
use Rattle.ff_door.specs.Views.{IsAt}
use Rattle.ff_threads.proofs.doors.mark_often.Given as goal

abbrev pub invariant-loop : goal.invariant-loop
invariant-loop g l = IsAt l.door l.seat × (l.seat.inside ≡ false) × (l.seat.number ≡ l.number)
