use Rattle.ff_reflect.specs.Sheets.{paper_of}
use Rattle.ff_reflect.specs.Standing.{IsStanding}
use Rattle.ff_reflect.specs.Walked.{met_of}
use Rattle.ff_reflect.proofs.Carry.{done_to}
use Rattle.ff_reflect.proofs.placed.Placed.carry.Given as goal

abbrev pub invariant-loop-i : goal.invariant-loop-i
invariant-loop-i l = IsStanding (paper_of l.pattern l.faces) (met_of l.tree) l.up (done_to (paper_of l.pattern l.faces) (met_of l.tree) l.k l.m.across l.i) l.self
