use Rattle.ff_types.specs.Sheets.{sheet_of}
use Rattle.ff_checker.proofs.Goings.{IsGoing}
use Rattle.ff_checker.proofs.checking.check.Given as goal

abbrev pub invariant-loop-i : goal.invariant-loop-i
invariant-loop-i l = IsGoing (sheet_of l.fn.pattern l.fn.faces l.fn.folded) l.fn.pins l.lines l.i l.progress
