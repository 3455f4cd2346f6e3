use Rattle.std.proofs.Common.{◌≡◌, map, drop, take, length}
use Rattle.ff_journal.specs.Epochs.{pin_of_given}
use Rattle.ff_told.proofs.refuting.pins_in.Given as goal

abbrev pub invariant-loop-i : goal.invariant-loop-i
invariant-loop-i l = l.pins.items ≡ map (pin_of_given l.case.pairs) (drop (length l.case.starts) (take l.i l.givens))
