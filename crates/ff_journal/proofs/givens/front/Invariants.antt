use Rattle.std.proofs.Common.{◌≡◌, ◌+◌, take, length}
use Rattle.ff_journal.specs.Epochs.{changes}
use Rattle.ff_journal.proofs.givens.front.Given as goal

abbrev pub invariant-loop-i : goal.invariant-loop-i
invariant-loop-i l = length (changes (take l.i l.journal)) + l.left ≡ l.epoch
