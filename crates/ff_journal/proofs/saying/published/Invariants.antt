use Rattle.std.proofs.Common.{◌≡◌, ◌≤◌, take}
use Rattle.ff_journal.specs.Publications.{published}
use Rattle.ff_journal.proofs.saying.published.Given as goal

abbrev pub invariant-loop-i : goal.invariant-loop-i
invariant-loop-i l = (l.count ≡ published (take l.i l.journal)) × (l.count ≤ l.i)
