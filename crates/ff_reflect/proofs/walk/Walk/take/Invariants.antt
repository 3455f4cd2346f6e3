use Rattle.std.proofs.Common.{◌++◌, length, take}
use Rattle.std.specs.List.{filter_map}
use Rattle.ff_types.specs.Inside.{steps}
use Rattle.ff_types.specs.Placing.{meeting_at}
use Rattle.ff_reflect.specs.Walked.{met_of, HasMet}
use Rattle.ff_reflect.proofs.walk.Walk.take.Given as goal

abbrev pub invariant-loop-i : goal.invariant-loop-i
invariant-loop-i l = HasMet (length l.faces.rings) (met_of l.fn.self.met.items ++ filter_map (meeting_at l.face l.pattern.edges l.faces.sides) (take l.i (steps l.ring))) l.self
