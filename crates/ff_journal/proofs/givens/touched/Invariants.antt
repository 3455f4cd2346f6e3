use Rattle.std.proofs.Common.{take}
use Rattle.ff_journal.specs.Reading.{AreTouched}
use Rattle.ff_journal.proofs.givens.touched.Given as goal

abbrev pub invariant-loop-i : goal.invariant-loop-i
invariant-loop-i l = AreTouched l.case.pairs (take l.i l.journal) l.flags.items
