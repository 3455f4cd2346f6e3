use Rattle.ff_edges.specs.Clips.{IsPartInside}
use Rattle.ff_edges.proofs.clips.part_inside.Given as goal

abbrev pub invariant-loop-i : goal.invariant-loop-i
invariant-loop-i l = IsPartInside l.points l.up l.ring l.i l.p l.q l.way.0 l.way.1
