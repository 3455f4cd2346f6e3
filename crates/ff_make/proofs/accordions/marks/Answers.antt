use Rattle.std.proofs.Common.{rules}
use Rattle.ff_make.proofs.Strips.{marks_more, no_marks}
use Rattle.ff_make.proofs.accordions.marks.Goals as goal

pub loop-e-init : goal.loop-e-init
loop-e-init c = record { so_far = search (rules, no_marks) }

pub loop-e-preserved : goal.loop-e-preserved
loop-e-preserved c = record { so_far = search (rules, marks_more) }
