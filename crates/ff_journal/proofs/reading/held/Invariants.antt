use Rattle.std.proofs.Common.{◌≡◌, take}
use Rattle.ff_journal.specs.Epochs.{changes, held_by}
use Rattle.ff_journal.proofs.reading.held.Given as goal

abbrev pub invariant-loop-i : goal.invariant-loop-i
invariant-loop-i l = l.held ≡ held_by l.viewer (changes (take l.i l.journal)) l.pair
