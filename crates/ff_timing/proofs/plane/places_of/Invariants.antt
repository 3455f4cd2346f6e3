use Rattle.std.specs.List.{All}
use Rattle.ff_whole.specs.Sizes.{IsSmallPlace}
use Rattle.ff_timing.proofs.plane.places_of.Given as goal

abbrev pub invariant-loop-i : goal.invariant-loop-i
invariant-loop-i l = All IsSmallPlace l.places.items
