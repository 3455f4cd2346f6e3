use Rattle.ff_make.specs.Accordions.{AreMarks}
use Rattle.ff_make.proofs.accordions.marks.Given as goal

abbrev pub invariant-loop-e : goal.invariant-loop-e
invariant-loop-e l = record { so_far : AreMarks l.count l.e l.list.items }
