use Rattle.ff_core.specs.Scans.{IsScannedTo}
use Rattle.ff_core.proofs.scanning.scan.Given as goal

abbrev pub invariant-loop-c : goal.invariant-loop-c
invariant-loop-c l = IsScannedTo l.constraints l.facts l.c l.more
