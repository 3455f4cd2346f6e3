use Rattle.std.proofs.Common.{◌≡◌, take, false}
use Rattle.ff_journal.specs.Epochs.{changes}
use Rattle.ff_journal.proofs.InForce.{among}
use Rattle.ff_journal.proofs.reading.is_in_force.Given as goal

abbrev pub invariant-loop-i : goal.invariant-loop-i
invariant-loop-i l = among (changes l.journal) (take l.i l.journal) l.pair l.value ≡ false
