use Rattle.std.proofs.Common.{◌≤◌, length, take}
use Rattle.ff_core.specs.States.{StandsFor}
use Rattle.ff_core.specs.Runs.{HasRun}
use Rattle.ff_core.proofs.running.run.Given as goal

abbrev pub invariant-loop-i : goal.invariant-loop-i
invariant-loop-i l = StandsFor l.case l.core × HasRun l.case l.budget (take l.i l.list) l.core × (length l.core.journal ≤ l.i)
