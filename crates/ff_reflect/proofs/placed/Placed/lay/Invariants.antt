use Rattle.std.proofs.Common.{take}
use Rattle.ff_reflect.specs.Puts.{IsLaid}
use Rattle.ff_reflect.proofs.placed.Placed.lay.Given as goal

abbrev pub invariant-loop-i : goal.invariant-loop-i
invariant-loop-i l = IsLaid l.pattern.points (take l.i l.ring) l.self
