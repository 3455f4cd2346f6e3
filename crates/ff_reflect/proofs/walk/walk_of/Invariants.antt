use Rattle.std.proofs.Common.{length, ◌-◌}
use Rattle.ff_reflect.specs.Sheets.{paper_of}
use Rattle.ff_reflect.specs.Walked.{met_of}
use Rattle.ff_reflect.proofs.Taken.{IsWalkTo}
use Rattle.ff_reflect.proofs.walk.walk_of.Given as goal

abbrev pub invariant-loop-place : goal.invariant-loop-place
invariant-loop-place l = IsWalkTo (paper_of l.pattern l.faces) (met_of l.walk.met.items) (met_of l.walk.tree.items) l.walk.seen.items l.place

abbrev pub decreases-loop-place : goal.decreases-loop-place
decreases-loop-place l = length l.faces.rings - l.place
