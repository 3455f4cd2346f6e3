use Rattle.ff_reflect.specs.Walked.{met_of}
use Rattle.ff_reflect.proofs.Turned.{AreTurned}
use Rattle.ff_reflect.proofs.flags.flags_of.Given as goal

abbrev pub invariant-loop-i : goal.invariant-loop-i
invariant-loop-i l = AreTurned l.faces l.marks (met_of l.tree) l.up.items l.i
