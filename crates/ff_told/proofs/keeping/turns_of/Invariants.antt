use Rattle.std.proofs.Common.{◌≡◌, ◌*◌, ◌≤◌, take}
use Rattle.ff_told.specs.Earlier.{turns_in}
use Rattle.ff_told.proofs.keeping.turns_of.Given as goal

abbrev pub invariant-loop-i : goal.invariant-loop-i
invariant-loop-i l = (l.turns ≡ turns_in (take l.i l.pages)) × (l.turns ≤ l.i * 1000000000)
