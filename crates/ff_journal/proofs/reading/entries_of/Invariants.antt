use Rattle.std.proofs.Common.{◌≡◌, ◌≤◌, take, length}
use Rattle.ff_journal.specs.Journals.{commands_of}
use Rattle.ff_journal.proofs.reading.entries_of.Given as goal

abbrev pub invariant-loop-i : goal.invariant-loop-i
invariant-loop-i l = (l.count ≡ length (commands_of l.viewer (take l.i l.journal))) × (l.count ≤ l.i)
