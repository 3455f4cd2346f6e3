use Rattle.std.proofs.Common.{take}
use Rattle.ff_log.proofs.LogLaws.{AreRead}
use Rattle.ff_log.proofs.reading.lines_of.Given as goal

-- the lines so far are read
abbrev pub invariant-loop-i : goal.invariant-loop-i
invariant-loop-i l = AreRead (take l.i l.lines) l.log.items
