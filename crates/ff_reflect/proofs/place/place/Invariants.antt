use Rattle.std.proofs.Common.{take}
use Rattle.ff_types.specs.FoldRefusals.{placings}
use Rattle.ff_reflect.specs.Sheets.{paper_of}
use Rattle.ff_reflect.specs.Standing.{IsStanding}
use Rattle.ff_reflect.specs.Trees.{order_along}
use Rattle.ff_reflect.specs.Walked.{met_of}
use Rattle.ff_reflect.proofs.place.place.Given as goal

abbrev pub invariant-loop-k : goal.invariant-loop-k
invariant-loop-k l = IsStanding (paper_of l.pattern l.faces) (met_of l.tree) l.up (placings l.faces.rings (order_along (take l.k (met_of l.tree)))) l.placed
