use Rattle.std.proofs.Common.{◌≡◌}
use Rattle.ff_journal.specs.Epochs.{viewer_in}
use Rattle.ff_door.specs.Entries.{Follows}
use Rattle.ff_bench.specs.Views.{IsPlaceOf}
use Rattle.ff_bench.proofs.bench.Bench.enter.Given as goal

abbrev pub invariant-loop : goal.invariant-loop
invariant-loop g l = record {
  place : IsPlaceOf l.self l.place;
  number : l.place.number ≡ l.viewer;
  same : l.place.number ≡ l.initial.place.number;
  seen : Follows viewer_in l.viewer l.initial.place.seen l.place.seen;
}
