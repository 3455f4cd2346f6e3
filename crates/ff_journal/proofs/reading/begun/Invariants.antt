use Rattle.std.proofs.Common.{◌≡◌, ◌≤◌, take}
use Rattle.ff_journal.specs.Epochs.{last_begun}
use Rattle.ff_journal.proofs.reading.begun.Given as goal

abbrev pub invariant-loop-i : goal.invariant-loop-i
invariant-loop-i l = (l.count ≡ last_begun (take l.i l.journal)) × (l.count ≤ l.i)
